use Rattle.std.proofs.Common.{◌≡◌, ◌∙◌, ℕ, List, IfOk, ap, sym, subst}
use Rattle.metrics_descriptions.specs.Legends.{Legend, described_by}
use Rattle.metrics_exporter.specs.Exporting.{Cells, steps, cells_after}
use Rattle.metrics_exporter.specs.Kept.{held_cells, described}
use Rattle.metrics_exporter.specs.Readings.{all_read, keyed_readings, AreReadings}
use Rattle.metrics_exporter.specs.declared.readings.SeriesReading.{SeriesReading}
use Rattle.metrics_prometheus.specs.Counted.{counted_bytes}
use Rattle.metrics_prometheus.specs.Exposition.{IsScaled}
use Rattle.tool_requests.specs.Places.{kept_places}
use Rattle.tool_prometheus.specs.Own.{own_places, with_own}
use Rattle.tool_prometheus.specs.OwnRows.{all_own}
use Rattle.tool_prometheus.proofs.showing.text_with.Goals as goal

pub returns-clause-ok : goal.returns-clause-ok
returns-clause-ok c = λ setup log after.
    let on = c.args.on.now in
    let cells = held_cells on.exporter in
    let own = all_own c.args.rows.now in
    let r = c.counted_exposition_of.result in
    let kept : List ℕ → ℕ = kept_places on.dialect.places on.front in
    let Q : List SeriesReading → Type 0 = λ series. AreReadings (with_own own cells) (keyed_readings series) in
    let P : Cells → Legend → (List ℕ → ℕ) → Type 0 =
    λ at legend places. IfOk r (λ shown. IsScaled on.naming legend (own_places places) (with_own own at) (counted_bytes shown)) in
    let same : cells ≡ cells_after setup (steps log) = λ i s. after.cells s i in
    let legend : described_by c.descriptions.result.now ≡ described on.exporter = λ i k n. c.descriptions.ensures k n i in
    let held : AreReadings cells (keyed_readings c.in_ok-all.all.items) =
    subst (AreReadings cells) (sym (c.in_ok-all.ensures ∙ ap all_read c.deref.ensures.value)) c.in_ok-held.ensures.readings in
    let is = c.counted_exposition_of.ensures.ok (with_own own cells) (subst Q (sym c.deref-2.ensures.value) (c.in_ok-all-2.ensures cells held)) in
    subst (λ at. P at (described on.exporter) kept) same (subst (λ l. P cells l kept) legend
    (subst (λ places. P cells (described_by c.descriptions.result.now) places) c.kept_places_of.ensures is))
