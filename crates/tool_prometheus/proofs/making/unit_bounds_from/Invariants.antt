-- The bounds of the units so far.
use Rattle.std.proofs.Common.{◌≡◌, ℕ, List, None, take}
use Rattle.metrics_names.specs.declared.common.Unit.{Unit as Measure}
use Rattle.metrics_storage.specs.Histogram.{no_samples}
use Rattle.metrics_exporter.specs.Choice.{set_for, exact_for, unit_for}
use Rattle.tool_prometheus.specs.Making.{set_in}
use Rattle.tool_prometheus.proofs.making.unit_bounds_from.Given as goal

abbrev pub invariant-loop-one : goal.invariant-loop-one
invariant-loop-one l = record {
  default : l.bounds.default ≡ no_samples l.default;
  exact : (name : List ℕ) → exact_for l.bounds name ≡ None;
  prefixes : (prefix : List ℕ) → set_for l.bounds prefix ≡ None;
  units : (unit : Measure) → unit_for l.bounds unit ≡ set_in (take l.one-index l.units) unit;
}
