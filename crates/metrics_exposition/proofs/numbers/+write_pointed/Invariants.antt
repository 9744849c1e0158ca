-- Each call writes one place fewer.
use Rattle.metrics_exposition.proofs.numbers.+write_pointed.Given as goal

abbrev pub decreases-write_pointed : goal.decreases-write_pointed
decreases-write_pointed l = l.places
