use Rattle.std.proofs.Common.{◌≡◌}
use Rattle.metrics_storage.specs.Histogram.{order_up_to}
use Rattle.metrics_storage.proofs.scale.order_of.Given as goal

abbrev pub invariant-loop-at : goal.invariant-loop-at
invariant-loop-at l = l.order.items ≡ order_up_to l.bounds l.at
