use Rattle.std.proofs.Common.{◌∙◌, List, cond, Some, ap}
use Rattle.std.proofs.lemmas.List.{take_all}
use Rattle.metrics_exporter.specs.Choice.{unit_for}
use Rattle.metrics_exporter.specs.Units.{unit_eq}
use Rattle.tool_prometheus.specs.declared.making.UnitBounds.{UnitBounds}
use Rattle.tool_prometheus.specs.Making.{set_in}
use Rattle.tool_prometheus.proofs.MakingLemmas.{in-next}
use Rattle.tool_prometheus.proofs.making.unit_bounds_from.Goals as goal

pub loop-one-preserved : goal.loop-one-preserved
loop-one-preserved c =
    let was = c.loop-one.invariant in
    let done = c.in_ok-set_unit.ensures in
    record {
      default = done.default ∙ was.default;
      exact = λ n. done.exact n ∙ was.exact n;
      prefixes = λ p. done.prefixes p ∙ was.prefixes p;
      units = in-next (unit_for c.loop-one.bounds) (unit_for c.set_unit.new.self) c.args.units.now c.loop-one.one-index c.one-item.result c.loop-one-test.true c.one-item.is was.units
          (λ u. done.sets u ∙ (λ i. cond (unit_eq c.one-item.result.unit u) (Some (c.as_slice.ensures i)) (unit_for c.loop-one.bounds u)));
    }

pub returns : goal.returns
returns c =
    let was = c.loop-one.invariant in
    let all = take_all c.loop-one.one-index c.args.units.now c.loop-one-test.false in
    record {
      default = was.default;
      exact = was.exact;
      prefixes = was.prefixes;
      units = λ u. was.units u ∙ ap (λ (xs : List UnitBounds). set_in xs u) all;
    }
