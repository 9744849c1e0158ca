use Rattle.std.proofs.Common.{◌∙◌}
use Rattle.metrics_names.specs.Equality.{key_eq-Decides}
use Rattle.metrics_shared_registry.proofs.ResultLemmas.{if-ok}
use Rattle.metrics_collector.proofs.readings.Series.on_gauge.Goals as goal

-- equal keys are one
pub returns-clause-called : goal.returns-clause-called
returns-clause-called g c =
    if-ok c.get_or_create_gauge.result _ _ (λ v k. (k.0, k.1.2.1 ∙ (key_eq-Decides k.1.0 c.args.key.now).0 k.1.1, k.2)) c.get_or_create_gauge.ensures.called
