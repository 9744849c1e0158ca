use Rattle.std.proofs.Common.{◌+◌, ◌*◌}
use Rattle.test_bucket.proofs.threads.+fn-push_in-join+arg2+fn-push_in-join+arg3+push_in.Given as goal

abbrev pub decreases-join+arg2 : goal.decreases-join+arg2
decreases-join+arg2 g l = 2 * l.depth + 1

abbrev pub decreases-join+arg3 : goal.decreases-join+arg3
decreases-join+arg3 g l = 2 * l.depth + 1

abbrev pub decreases-push_in : goal.decreases-push_in
decreases-push_in g l = 2 * l.depth
