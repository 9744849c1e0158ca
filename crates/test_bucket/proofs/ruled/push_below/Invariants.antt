use Rattle.std.proofs.Common.{◌≡◌, false}
use Rattle.test_bucket.proofs.ruled.push_below.Given as goal

abbrev pub invariant-loop-value : goal.invariant-loop-value
invariant-loop-value g l = (l.pen.home ≡ l.initial.pen.home) × (l.pen.ticket ≡ false)
