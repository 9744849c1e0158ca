use Rattle.std.proofs.Common.{◌≡◌, List, ℕ, sym, subst}
use Rattle.metrics_storage.specs.Histogram.{bounds_of}
use Rattle.metrics_exporter.specs.Choice.{bounds_in}
use Rattle.tool_state.specs.Runs.{Run, AreSamplesOf}
use Rattle.tool_state.proofs.WrittenLemmas.{on-ok}
use Rattle.tool_state.proofs.writing.add_samples.Goals as goal

pub returns : goal.returns
returns c =
    let P : List Run → Type 0 = λ l. AreSamplesOf l c.args.histogram.now in
    let Q : List ℕ → Type 0 = λ n. bounds_in c.args.bounds.now c.in-Some.unit n ≡ bounds_of c.args.histogram.now in
    on-ok c.add_runs.result _ _ c.add_runs.ensures
    (λ h. (c.in-Some.unit, c.deref.result.now, subst Q c.name.ensures c.in-Some.ensures, subst P (sym c.deref.ensures.value) c.in_ok-runs.ensures, h))
