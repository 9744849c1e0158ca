use Rattle.std.proofs.Common.{◌≡◌, ◌≤◌, take, length}
use Rattle.metrics_storage.specs.Histogram.{sum_up_to, ShowsBuckets}
use Rattle.metrics_storage.proofs.Ordering.{shown_at}
use Rattle.metrics_storage.proofs.histogram.show_in_order.Given as goal

abbrev pub invariant-loop-at : goal.invariant-loop-at
invariant-loop-at g l = record {
  within : l.first ≤ length l.fn.ranks;
  sum : l.sum ≡ sum_up_to l.first l.fn.ranks;
  calls : ShowsBuckets g.F.FnMut l.initial.f (take l.at-index (shown_at l.fn.bounds l.fn.ranks l.fn.order)) l.f;
}
