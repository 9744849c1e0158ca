use Rattle.std.proofs.Common.{◌≡◌, take}
use Rattle.metrics_storage.specs.Histogram.{rank}
use Rattle.metrics_storage.proofs.scale.rank_of.Given as goal

abbrev pub invariant-loop-bound : goal.invariant-loop-bound
invariant-loop-bound l = l.rank ≡ rank (take l.bound-index l.fn.bounds) l.fn.sample
