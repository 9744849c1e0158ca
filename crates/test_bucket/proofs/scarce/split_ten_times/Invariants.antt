use Rattle.std.proofs.Common.{◌≡◌, false}
use Rattle.test_bucket.proofs.scarce.split_ten_times.Given as goal

abbrev pub invariant-loop : goal.invariant-loop
invariant-loop g l = l.pen.ticket ≡ false
