use Rattle.std.proofs.Common.{◌≡◌, false}
use Rattle.test_bucket.proofs.threads.push_waiting.Given as goal

abbrev pub invariant-loop : goal.invariant-loop
invariant-loop g l = (l.pen.home ≡ l.initial.pen.home) × (l.pen.weight ≡ l.initial.pen.weight) × (l.pen.ticket ≡ false)
