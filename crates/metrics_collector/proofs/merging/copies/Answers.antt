use Rattle.std.proofs.Common.{◌∙◌, ◌+◌, ◌++◌, ◌∷◌, [], List, map, drop, ap, sym, append_assoc}
use Rattle.std.proofs.lemmas.List.{at_drop_more}
use Rattle.metrics_exporter.specs.Readings.{KeyedReading}
use Rattle.metrics_collector.specs.declared.gathered.GatheredSeries.{GatheredSeries}
use Rattle.metrics_collector.specs.Gathering.{keyed_gathered}
use Rattle.metrics_collector.proofs.merging.copies.Goals as goal

pub loop-row-preserved : goal.loop-row-preserved
loop-row-preserved c =
    let rows = c.args.rows.now in
    let i = c.loop-row.row-index in
    let x : GatheredSeries = c.row-item.result in
    let all : List KeyedReading = map keyed_gathered c.loop-row.all.items in
    let rest : List KeyedReading = map keyed_gathered (drop (i + 1) rows) in
    ap (λ l. l ++ rest) c.in_ok-push_copy.ensures.ok
    ∙ append_assoc all (keyed_gathered x ∷ []) rest
    ∙ ap (λ (y : GatheredSeries). all ++ keyed_gathered y ∷ rest) c.row-item.is
    ∙ sym (at_drop_more (λ more. all ++ map keyed_gathered more) rows i x c.loop-row-test.true)
    ∙ c.loop-row.invariant
