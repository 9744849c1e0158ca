use Rattle.std.proofs.Common.{◌≡◌, ◌≤◌, ◌++◌, string_bytes}
use Rattle.metrics_registry.specs.Quantiles.{low_digits, without_trailing_zeros}
use Rattle.metrics_registry.proofs.quantile.push_decimals.Given as goal

-- what was written and what is left to write are what is to be written
abbrev pub invariant-loop-places : goal.invariant-loop-places
invariant-loop-places l = record {
  few : l.places ≤ 7;
  told : string_bytes l.label ++ without_trailing_zeros (low_digits l.places l.decimals) ≡ string_bytes l.fn.label ++ without_trailing_zeros (low_digits 7 l.decimals);
}

abbrev pub decreases-loop-places : goal.decreases-loop-places
decreases-loop-places l = l.places
