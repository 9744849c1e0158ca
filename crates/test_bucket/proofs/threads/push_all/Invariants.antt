use Rattle.std.proofs.Common.{◌≡◌, false}
use Rattle.test_bucket.proofs.threads.push_all.Given as goal

abbrev pub invariant-loop-value : goal.invariant-loop-value
invariant-loop-value g l = (l.pen.home ≡ l.initial.pen.home) × (l.pen.weight ≡ l.initial.pen.weight) × (l.pen.ticket ≡ false)
