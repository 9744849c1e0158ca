use Rattle.std.proofs.Common.{◌≡◌}
use Rattle.metrics_storage.proofs.Merging.{added_up_to}
use Rattle.metrics_storage.proofs.histogram.add_ranks.Given as goal

abbrev pub invariant-loop-i : goal.invariant-loop-i
invariant-loop-i l = l.ranks ≡ added_up_to l.i l.fn.ranks l.fn.more
