use Rattle.std.proofs.Common.{rules, w64, to_z, of_z, ◌≡◌, [], ◌∷◌, get_or, subst}
use Rattle.std.specs.Prelude.{ℤ, pos}
use Rattle.std.proofs.Math.Facts.{to_z-of_z}
use Rattle.metrics.specs.declared.handles.Update.TheVariants.{Record}
use Rattle.tool_requests.specs.declared.requests.Request.TheVariants.{Change}
use Rattle.tool_state.specs.Runs.{Run}
use Rattle.tool_state.specs.Written.{Adds}
use Rattle.tool_state.proofs.WrittenLemmas.{adds-none, runs-more}
use Rattle.tool_state.proofs.writing.add_runs.Goals as goal

pub loop-times-init : goal.loop-times-init
loop-times-init c = adds-none c.args.body.now

pub loop-times-preserved : goal.loop-times-preserved
loop-times-preserved c =
    let r : Run = get_or c.args.runs.now c.loop-times.times-index (0, pos 0) in
    let read : to_z w64 (of_z w64 r.1) ≡ r.1 = to_z-of_z {w = w64} {z = r.1} (search rules) in
    let P : ℤ → Type 0 = λ z. Adds ((r.0, c.args.unit, Change c.args.key.now (Record z)) ∷ []) c.loop-times.body c.add_update.new.body in
    runs-more c.args.unit c.args.key.now c.args.runs.now c.loop-times.times-index (0, pos 0) c.args.body.now c.loop-times.body c.add_update.new.body c.loop-times-test.true c.loop-times.invariant (subst P read c.in_ok-add_update.ensures)
