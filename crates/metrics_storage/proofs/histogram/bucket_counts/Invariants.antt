use Rattle.std.proofs.Common.{◌≡◌, ◌≤◌, take, length}
use Rattle.metrics_storage.specs.Histogram.{buckets_of, sum_up_to}
use Rattle.metrics_storage.proofs.histogram.bucket_counts.Given as goal

abbrev pub invariant-loop-i : goal.invariant-loop-i
invariant-loop-i l = record {
  within : l.first ≤ length l.fn.ranks;
  sum : l.sum ≡ sum_up_to l.first l.fn.ranks;
  bucket_counts : l.bucket_counts.items ≡ take l.i (buckets_of l.fn.bounds l.fn.ranks);
}
