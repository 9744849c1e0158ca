use Rattle.std.proofs.Common.{◌≡◌, [], subst}
use Rattle.std.proofs.lemmas.Result.{IfOk-weaker}
use Rattle.metrics_exporter.specs.Exporting.{Setup}
use Rattle.metrics_exporter.specs.Kept.{IsAfter}
use Rattle.tool_export.specs.Plans.{setup_of}
use Rattle.tool_export.proofs.exporting.exporter_of.Goals as goal

pub returns-clause-made : goal.returns-clause-made
returns-clause-made c =
    let plan = c.args.plan.now in
    let same : record { bounds = λ unit name. c.as_slice.result.now; rules = (setup_of plan).rules } ≡ setup_of plan =
    λ i. record { bounds = λ unit name. c.as_slice.ensures i; rules = (setup_of plan).rules } in
    IfOk-weaker c.new.result _ _ (λ e after. subst (λ (setup : Setup). IsAfter setup [] e) same after) c.new.ensures.ok
