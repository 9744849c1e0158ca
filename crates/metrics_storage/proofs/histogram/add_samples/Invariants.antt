use Rattle.std.proofs.Common.{◌≡◌, take}
use Rattle.metrics_storage.specs.Histogram.{all_ranked}
use Rattle.metrics_storage.proofs.histogram.add_samples.Given as goal

abbrev pub invariant-loop-sample : goal.invariant-loop-sample
invariant-loop-sample l = l.ranks ≡ all_ranked l.fn.bounds (take l.sample-index l.fn.samples) l.fn.ranks
