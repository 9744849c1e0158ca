use Rattle.std.proofs.Common.{◌∙◌, ap}
use Rattle.std.proofs.lemmas.List.{take_all}
use Rattle.metrics_names.specs.Names.{KeyParts, SeriesKey, key_eq}
use Rattle.metrics_registry.specs.Recency.{Table}
use Rattle.metrics_registry.specs.RecencyEntries.{table_of}
use Rattle.metrics_exporter.specs.Gathering.{series_at, series_shown, all_shown}
use Rattle.metrics_exporter.specs.Stepping.{notes_without}
use Rattle.metrics_exporter.proofs.ExpiryLemmas.{removed-next}
use Rattle.metrics_exporter.proofs.GatheringLemmas.{shown-get, shown-within, shown-end}
use Rattle.metrics_exporter.proofs.expiring.forget.Goals as goal

pub loop-one-preserved : goal.loop-one-preserved
loop-one-preserved c =
    let was = c.loop-one.invariant in
    let rows = c.args.series.now in
    let i = c.loop-one.one-index in
    let s : SeriesKey = series_shown c.one-item.result in
    record {
      rules = c.forget.ensures.rules ∙ was.rules;
      notes = λ j kind key. removed-next (all_shown rows) i s (series_at kind key) _ _ _ (shown-within rows i c.loop-one-test.true) (shown-get rows i c.one-item.result c.one-item.is)
          (ap (λ (t : Table KeyParts). t kind key) was.notes) (c.forget.ensures.gone kind key) j;
    }

pub returns : goal.returns
returns c =
    let was = c.loop-one.invariant in
    let all = take_all c.loop-one.one-index (all_shown c.args.series.now) (shown-end c.args.series.now c.loop-one.one-index c.loop-one-test.false) in
    record { rules = was.rules; notes = was.notes ∙ ap (λ l. notes_without l (table_of key_eq c.args.recency.now)) all }
