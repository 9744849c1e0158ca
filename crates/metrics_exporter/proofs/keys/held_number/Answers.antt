use Rattle.std.proofs.Common.{rules}
use Rattle.metrics_exporter.proofs.NumberLemmas.{number-more, number-all}
use Rattle.metrics_exporter.proofs.keys.held_number.Goals as goal

pub loop-shard-preserved : goal.loop-shard-preserved
loop-shard-preserved c =
    number-more c.shards-shard-items.result.now (λ s. s.counters) (λ s. s.gauges) (λ s. s.histograms) c.loop-shard.shard-index c.shard-item.result c.loop-shard.number _ c.loop-shard-test.true c.shard-item.is c.loop-shard.invariant (search rules)

pub returns : goal.returns
returns c =
    let s = c.shards-shard-items.ensures in
    number-all c.args.registry.now c.shards-shard-items.result.now (λ s. s.counters) (λ s. s.gauges) (λ s. s.histograms) c.loop-shard.shard-index c.loop-shard.number
    c.loop-shard-test.false s.counters s.gauges s.histograms s.once.0 s.once.1 s.once.2 c.loop-shard.invariant
