-- Each call writes one place fewer.
use Rattle.metrics_exposition.proofs.numbers.+write_unsigned.Given as goal

abbrev pub decreases-write_unsigned : goal.decreases-write_unsigned
decreases-write_unsigned l = l.places
