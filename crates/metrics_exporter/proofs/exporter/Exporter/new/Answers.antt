use Rattle.std.proofs.Common.{◌≡◌, ℕ, List, [], Option, subst}
use Rattle.std.specs.Prelude.{ℤ}
use Rattle.std.proofs.lemmas.Result.{IfOk-weaker}
use Rattle.metrics_names.specs.declared.common.Unit.{Unit as Measure}
use Rattle.metrics.specs.Layers.{mask_has}
use Rattle.metrics_registry.specs.Recency.{Rules}
use Rattle.metrics_exporter.specs.Choice.{bounds_in}
use Rattle.metrics_exporter.specs.Exporting.{Setup}
use Rattle.metrics_exporter.specs.Kept.{IsAfter}
use Rattle.metrics_exporter.proofs.exporter.Exporter.new.Goals as goal

pub returns-clause-ok : goal.returns-clause-ok
returns-clause-ok c =
    let rules : Rules = record { timeout = c.args.idle_timeout; mask = λ kind. mask_has kind c.args.mask } in
    let with : (Option Measure → List ℕ → List ℤ) → Setup = λ bounds. record { bounds = bounds; rules = rules } in
    let same : bounds_in c.in_ok-bounds.bounds ≡ (λ unit name. c.args.bounds.now) = λ i unit name. c.in_ok-bounds.ensures.all unit name i in
    IfOk-weaker c.with_bounds.result _ _ (λ e after. subst (λ bounds. IsAfter (with bounds) [] e) same after) c.with_bounds.ensures.ok
