use Rattle.std.proofs.Common.{rules, w64, ◌≡◌, Bool, true, cond, [], ◌∷◌, sym, subst}
use Rattle.std.specs.Prelude.{ℤ}
use Rattle.std.proofs.Math.Facts.{to_z-of_z}
use Rattle.metrics.specs.declared.debugging.DebugValue.{DebugValue}
use Rattle.metrics.specs.declared.handles.Update.TheVariants.{Set}
use Rattle.metrics_exporter.specs.Absorbing.{updates_of, remaining_samples, MakesUpdates}
use Rattle.metrics_exporter.proofs.absorb.absorb_value.Goals as goal

pub returns-else-not-active-2-clause-makes : goal.returns-else-not-active-2-clause-makes
returns-else-not-active-2-clause-makes c = λ setup log after.
    let call = c.update_once-in-Gauge in
    let V : DebugValue → Type 0 = λ v. MakesUpdates setup log c.args.key.now (updates_of c.args.active (remaining_samples c.args.samples v)) call.result call.new.on in
    let B : Bool → Type 0 = λ b. MakesUpdates setup log c.args.key.now (cond b (Set c.in-Gauge.level ∷ []) []) call.result call.new.on in
    let S : ℤ → Type 0 = λ n. MakesUpdates setup log c.args.key.now (Set n ∷ []) call.result call.new.on in
    let read = to_z-of_z {w = w64} {z = c.in-Gauge.level} (search rules) in
    let on : c.args.active ≡ true = search rules in
    subst V (sym c.in-Gauge.is) (subst B (sym on) (subst S read (call.ensures.makes setup log after)))
