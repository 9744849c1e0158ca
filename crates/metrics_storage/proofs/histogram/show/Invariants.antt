use Rattle.std.proofs.Common.{◌≡◌, ◌≤◌, take, length}
use Rattle.metrics_storage.specs.Histogram.{buckets_of, sum_up_to, ShowsBuckets}
use Rattle.metrics_storage.proofs.histogram.show.Given as goal

abbrev pub invariant-loop-i : goal.invariant-loop-i
invariant-loop-i g l = record {
  within : l.first ≤ length l.fn.ranks;
  sum : l.sum ≡ sum_up_to l.first l.fn.ranks;
  calls : ShowsBuckets g.F.FnMut l.initial.f (take l.i (buckets_of l.fn.bounds l.fn.ranks)) l.f;
}
