use Rattle.metrics_bucket.proofs.spares.+divide.Given as goal

abbrev pub decreases-divide : goal.decreases-divide
decreases-divide l = l.depth
