use Rattle.std.proofs.Common.{◌≡◌, take}
use Rattle.metrics_storage.specs.Histogram.{own_ranks}
use Rattle.metrics_storage.proofs.scale.ranks_of.Given as goal

abbrev pub invariant-loop-bound : goal.invariant-loop-bound
invariant-loop-bound l = l.ranks.items ≡ take l.bound-index (own_ranks l.fn.bounds)
