use Rattle.std.proofs.Common.{◌≡◌}
use Rattle.metrics_storage.specs.Histogram.{sum_up_to}
use Rattle.metrics_storage.proofs.histogram.raised.Given as goal

abbrev pub invariant-loop-i : goal.invariant-loop-i
invariant-loop-i l = l.sum ≡ sum_up_to l.i l.fn.ranks
