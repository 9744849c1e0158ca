use Rattle.std.proofs.Common.{rules, w64, to_z, of_z, ◌≡◌, List, [], ◌∷◌, None, map, refl, ap}
use Rattle.std.specs.Prelude.{ℤ}
use Rattle.std.proofs.Math.Facts.{to_z-of_z}
use Rattle.metrics.specs.declared.handles.Update.TheVariants.{Increment, Set}
use Rattle.metrics_exporter.specs.Choice.{bounds_in}
use Rattle.metrics_exporter.specs.declared.readings.ReadingRef.TheVariants as shown
use Rattle.tool_requests.specs.declared.requests.Request.TheVariants.{Change}
use Rattle.tool_state.specs.State.{Entry}
use Rattle.tool_state.specs.Held.{recorded}
use Rattle.tool_state.proofs.WrittenLemmas.{reading-made}
use Rattle.tool_state.proofs.writing.add_reading.Goals as goal

pub returns-in-Count : goal.returns-in-Count
returns-in-Count c =
    reading-made (bounds_in c.args.bounds.now) c.args.one (shown.Count c.in-Count.n) c.add_count.result c.args.body.now c.add_count.new.body _ c.in-Count.is c.add_count.ensures.adds
    (λ h. ((1, None, Change c.args.one.key.now (Increment c.in-Count.n)) ∷ [], h, (refl, c.add_count.ensures.small, refl)))

pub returns-in-Level : goal.returns-in-Level
returns-in-Level c =
    let read : to_z w64 (of_z w64 c.in-Level.n) ≡ c.in-Level.n = to_z-of_z {w = w64} {z = c.in-Level.n} (search rules) in
    let E : ℤ → List Entry = λ z. (1, None, Change c.args.one.key.now (Set z)) ∷ [] in
    reading-made (bounds_in c.args.bounds.now) c.args.one (shown.Level c.in-Level.n) c.add_level.result c.args.body.now c.add_level.new.body _ c.in-Level.is c.add_level.ensures
    (λ h. (E (to_z w64 (of_z w64 c.in-Level.n)), h, (refl, ap E read)))

pub returns-in-Samples : goal.returns-in-Samples
returns-in-Samples c =
    reading-made (bounds_in c.args.bounds.now) c.args.one (shown.Samples c.in-Samples.histogram) c.add_samples.result c.args.body.now c.add_samples.new.body _ c.in-Samples.is c.add_samples.ensures
    (λ h. (map (recorded h.0 c.args.one.key.now) h.1, h.4, (refl, (h.0, h.1, h.2, h.3, refl))))
