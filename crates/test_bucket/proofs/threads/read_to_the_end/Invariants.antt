use Rattle.std.proofs.Common.{◌≡◌, false}
use Rattle.test_bucket.proofs.threads.read_to_the_end.Given as goal

abbrev pub invariant-loop : goal.invariant-loop
invariant-loop g l = (l.pen.home ≡ l.initial.pen.home) × (l.pen.ticket ≡ false)
