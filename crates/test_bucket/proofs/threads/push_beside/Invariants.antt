use Rattle.std.proofs.Common.{◌≡◌, false}
use Rattle.test_bucket.proofs.threads.push_beside.Given as goal

abbrev pub invariant-loop : goal.invariant-loop
invariant-loop g l = (l.other.home ≡ l.initial.other.home) × (l.other.ticket ≡ false)
