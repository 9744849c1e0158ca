use Rattle.std.proofs.Common.{◌≡◌, ◌*◌, ◌^◌, take, pos, neg_ℤ, ◌≤ℤ◌}
use Rattle.metrics_storage.specs.Histogram.{sum_of}
use Rattle.metrics_storage.proofs.histogram.sum_all.Given as goal

abbrev pub invariant-loop-sample : goal.invariant-loop-sample
invariant-loop-sample l = (l.sum ≡ sum_of (take l.sample-index l.samples)) × (neg_ℤ (pos (2 ^ 63 * l.sample-index)) ≤ℤ l.sum) × (l.sum ≤ℤ pos (2 ^ 63 * l.sample-index))
