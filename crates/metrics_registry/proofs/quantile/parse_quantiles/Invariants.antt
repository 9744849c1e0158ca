use Rattle.std.proofs.Common.{◌≡◌, map, take}
use Rattle.metrics_registry.specs.Quantiles.{clamped}
use Rattle.metrics_registry.proofs.quantile.parse_quantiles.Given as goal

abbrev pub invariant-loop-value : goal.invariant-loop-value
invariant-loop-value l = l.quantiles.items ≡ map clamped (take l.value-index l.values)
