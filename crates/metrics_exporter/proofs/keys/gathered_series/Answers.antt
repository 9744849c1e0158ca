use Rattle.std.proofs.Common.{List, ◌++◌, ◌∙◌, ap, sym, subst}
use Rattle.std.proofs.lemmas.List.{take_all}
use Rattle.metrics_names.specs.declared.kind.MetricKind.TheVariants.{Counter, Gauge, Histogram}
use Rattle.metrics_exporter.specs.Exporting.{count, level, samples}
use Rattle.metrics_exporter.specs.Gathering.{Seen, IsWalk, seen_in, walk_of}
use Rattle.metrics_exporter.specs.Kept.{cells_of}
use Rattle.metrics_exporter.proofs.WalkLemmas.{walk-next}
use Rattle.metrics_exporter.proofs.SeenLemmas.{seen-gathered, walked-shards}
use Rattle.metrics_exporter.proofs.keys.gathered_series.Goals as goal

pub loop-shard-preserved : goal.loop-shard-preserved
loop-shard-preserved c =
    let s = c.shard-item.result in
    let more : List Seen → List Seen = λ l. l ++ seen_in Histogram samples s.histograms in
    c.in_ok-series-4.ensures ∙ ap more (c.in_ok-series-3.ensures ∙ ap (λ l. l ++ seen_in Gauge level s.gauges) (c.in_ok-series-2.ensures ∙ ap (λ l. l ++ seen_in Counter count s.counters) c.loop-shard.invariant))
    ∙ walk-next c.shards-shard-items.result.now c.loop-shard.shard-index s c.loop-shard-test.true c.shard-item.is

pub returns : goal.returns
returns c =
    let s = c.shards-shard-items.ensures in
    let P : List Seen → Type 0 = IsWalk (cells_of c.args.registry.now) in
    seen-gathered (cells_of c.args.registry.now) c.loop-shard.series.items
    (subst P (sym (c.loop-shard.invariant ∙ ap walk_of (take_all c.loop-shard.shard-index c.shards-shard-items.result.now c.loop-shard-test.false)))
    (walked-shards c.args.registry.now c.shards-shard-items.result.now s.counters s.gauges s.histograms s.once.0 s.once.1 s.once.2))
