use Rattle.std.proofs.Common.{◌≡◌, ◌∙◌, ℕ, List, [], Option, subst}
use Rattle.std.proofs.lemmas.Result.{IfOk-weaker}
use Rattle.metrics_names.specs.declared.common.Unit.{Unit as Measure}
use Rattle.metrics_exporter.specs.Choice.{bounds_in}
use Rattle.metrics_exporter.specs.Exporting.{Setup}
use Rattle.metrics_exporter.specs.Kept.{IsAfter}
use Rattle.metrics_exporter.specs.Prefixes.{at_longest}
use Rattle.tool_prometheus.specs.Making.{set_by, or_set_in, setup_for}
use Rattle.tool_prometheus.proofs.MakingLemmas.{ok-both}
use Rattle.tool_prometheus.proofs.making.exporter_for.Goals as goal

pub returns : goal.returns
returns c =
    let options = c.args.options.now in
    let bounds : (unit : Option Measure) (name : List ℕ) → bounds_in c.in_ok-bounds.bounds unit name ≡ (setup_for options).bounds unit name =
    λ unit name. c.in_ok-bounds.ensures unit name ∙ (λ i. at_longest (or_set_in (c.as_slice-units.ensures i) (c.as_slice.ensures i) unit) (set_by (c.as_slice-prefixes.ensures i)) name) in
    let made : Setup = record {
      bounds = bounds_in c.in_ok-bounds.bounds;
      rules = (setup_for options).rules;
    } in
    let same : made ≡ setup_for options =
    λ i. record {
      bounds = λ unit name. bounds unit name i;
      rules = (setup_for options).rules;
    } in
    ok-both c.with_bounds.result _ _ (IfOk-weaker c.with_bounds.result _ _ (λ e after. subst (λ (setup : Setup). IsAfter setup [] e) same after) c.with_bounds.ensures.ok)
    c.with_bounds.ensures.undescribed
