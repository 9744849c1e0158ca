use Rattle.std.proofs.Common.{false, ap, ◌∙◌}
use Rattle.metrics.specs.Layers.{filtered}
use Rattle.metrics_rules.specs.Meanings.{rules_meaning}
use Rattle.tool_prometheus.proofs.NamesLemmas.{unnamed, filtered_names}
use Rattle.tool_prometheus.proofs.names.rules_for.Goals as goal

pub returns-then-is_unnamed : goal.returns-then-is_unnamed
returns-then-is_unnamed c =
    let none = c.is_unnamed.ensures c.if-is_unnamed.true in
    unnamed c.args.options.now none.0 none.1

pub returns-in-Ok : goal.returns-in-Ok
returns-in-Ok c =
    let m = rules_meaning c.in_ok-below.below in
    let is = c.in-Ok.ensures.1 ∙ (λ i. filtered (c.in_ok-filter.ensures i).fold_case (c.in_ok-filter.ensures i).listed m) ∙ ap (λ ds. filtered false ds m) c.as_slice-2.ensures in
    filtered_names c.in-Ok.rules m c.args.options.now is c.in_ok-below.ensures
