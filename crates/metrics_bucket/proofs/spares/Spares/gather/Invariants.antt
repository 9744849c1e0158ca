use Rattle.std.proofs.Common.{◌≡◌, false}
use Rattle.metrics_bucket.specs.Spares.{WithSpares}
use Rattle.metrics_bucket.proofs.spares.Spares.gather.Given as goal

abbrev pub invariant-loop-at : goal.invariant-loop-at
invariant-loop-at l = (l.pen.home ≡ l.initial.pen.home) × (l.pen.ticket ≡ false) × WithSpares l.initial.pen l.pen
