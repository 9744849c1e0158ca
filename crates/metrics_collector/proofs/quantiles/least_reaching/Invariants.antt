use Rattle.std.proofs.Common.{◌≡◌, take}
use Rattle.metrics_collector.specs.Quantiles.{least_reaching}
use Rattle.metrics_collector.proofs.quantiles.least_reaching.Given as goal

abbrev pub invariant-loop-bound : goal.invariant-loop-bound
invariant-loop-bound l = l.least ≡ least_reaching l.fn.rank (take l.bound-index l.fn.buckets)
