use Rattle.std.proofs.Common.{rules, ◌≡◌, List, MatchResult, string_bytes, sym, subst}
use Rattle.metrics.specs.declared.error.Error.TheVariants.{Memory}
use Rattle.metrics_descriptions.specs.Legends.{Legend, described_by}
use Rattle.metrics_exporter.specs.Exporting.{Cells, HoldsSome, steps, cells_after}
use Rattle.metrics_exporter.specs.Kept.{held_cells, described}
use Rattle.metrics_exporter.specs.Readings.{all_read, AreReadings}
use Rattle.metrics_exporter.specs.declared.series.SeriesRef.{SeriesRef}
use Rattle.metrics_prometheus.specs.Exposition.{IsScaled}
use Rattle.metrics_prometheus.proofs.TextLemmas.{either-way}
use Rattle.metrics_prometheus.proofs.HeldLemmas.{some-read}
use Rattle.metrics_prometheus.proofs.text.counted_exposition.Goals as goal

pub returns-clause-text : goal.returns-clause-text
returns-clause-text g c = λ setup log keeps.
    let cells = held_cells c.args.exporter.now in
    let r = c.counted_exposition_of.result in
    let Q : List SeriesRef → Type 0 = λ series. AreReadings cells (all_read series) in
    let P : Cells → Legend → Type 0 = λ after legend. MatchResult r (λ counted. IsScaled c.args.naming legend (g.P.DecimalPlaces.places c.args.scale.now) after (string_bytes counted.text)) (λ e. e ≡ Memory) in
    let same : cells ≡ cells_after setup (steps log) = λ i s. keeps.cells s i in
    let keyed : described_by c.descriptions.result.now ≡ described c.args.exporter.now = λ i k n. c.descriptions.ensures k n i in
    let is : P cells (described_by c.descriptions.result.now) = either-way _ _ r (c.counted_exposition_of.ensures.ok cells (subst Q (sym c.deref.ensures.value) c.in_ok-series.ensures.readings)) c.counted_exposition_of.ensures.err in
    subst (λ after. P after (described c.args.exporter.now)) same (subst (P cells) keyed is)

pub returns-clause-refused : goal.returns-clause-refused
returns-clause-refused g c = λ setup log keeps.
    let cells = held_cells c.args.exporter.now in
    let same : cells ≡ cells_after setup (steps log) = λ i s. keeps.cells s i in
    some-read (cells_after setup (steps log)) c.in_ok-series.series.items c.deref.result.now c.counted_exposition_of.result c.deref.ensures.value (subst (λ after. AreReadings after (all_read c.in_ok-series.series.items)) same c.in_ok-series.ensures.readings) c.counted_exposition_of.ensures.refused

pub returns-in_err-series-clause-refused : goal.returns-in_err-series-clause-refused
returns-in_err-series-clause-refused g c = λ setup log keeps.
    let same : held_cells c.args.exporter.now ≡ cells_after setup (steps log) = λ i s. keeps.cells s i in
    let held : HoldsSome (cells_after setup (steps log)) = subst HoldsSome same c.in_err-series.ensures.refused in
    search rules
