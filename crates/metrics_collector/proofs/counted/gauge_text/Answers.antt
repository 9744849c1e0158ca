use Rattle.std.proofs.Common.{◌≡◌, ◌∙◌, ◌∷◌, [], List, ℤ, map, codes, ap, subst, w64}
use Rattle.std.proofs.Math.Facts.{to_z-of_z}
use Rattle.metrics_names.specs.Names.{LabelParts, KeyParts}
use Rattle.metrics_names.specs.declared.kind.MetricKind.TheVariants.{Gauge}
use Rattle.metrics_exporter.specs.Exporting.{level}
use Rattle.metrics_exporter.specs.Gathering.{series_at}
use Rattle.metrics_exporter.specs.Readings.{KeyedReading, AreOnce}
use Rattle.metrics_prometheus.proofs.TextLemmas.{with-first}
use Rattle.metrics_collector.specs.declared.gathered.GatheredSeries.{GatheredSeries}
use Rattle.metrics_collector.specs.Gathering.{keyed_gathered}
use Rattle.metrics_collector.specs.LeftOut.{left_out_gauge}
use Rattle.metrics_collector.proofs.counted.gauge_text.Goals as goal

-- the one row is the gauge
pub returns-clause-ok : goal.returns-clause-ok
returns-clause-ok c =
    let n = c.args.number in
    let labels = c.args.labels.now in
    let key : c.in_ok-key.key ≡ record { name = codes "metrics_left_out_series"; labels = labels } =
    c.in_ok-key.ensures ∙ ap (λ (ls : List LabelParts). record { name = codes "metrics_left_out_series"; labels = ls }) c.in_ok-copies.ensures.ok in
    let same : map keyed_gathered c.deref.result.now ≡ left_out_gauge labels n ∷ [] =
    ap (λ (xs : List GatheredSeries). map keyed_gathered xs) (c.deref.ensures.value ∙ c.in_ok-rows.ensures.items)
    ∙ ap (λ (t : KeyedReading). t ∷ []) c.gauge_row.ensures
    ∙ ap (λ (z : ℤ). (series_at Gauge c.in_ok-key.key, level z) ∷ []) (to_z-of_z {w = w64} {z = n} c.ranges.number)
    ∙ ap (λ (k : KeyParts). (series_at Gauge k, level n) ∷ []) key in
    with-first c.exposition_of.result _ _ (λ text h. (_, h.0, subst (λ (lines : List KeyedReading). AreOnce lines h.0) same h.1, h.3)) c.exposition_of.ensures.each
