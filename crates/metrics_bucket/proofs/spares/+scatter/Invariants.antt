use Rattle.metrics_bucket.proofs.spares.+scatter.Given as goal

abbrev pub decreases-scatter : goal.decreases-scatter
decreases-scatter l = l.depth
