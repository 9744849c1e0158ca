use Rattle.metrics_names.specs.Names.{key_eq}
use Rattle.metrics_registry.specs.RecencyEntries.{rules_of, table_of}
use Rattle.metrics_exporter.proofs.NotingLemmas.{found-next}
use Rattle.metrics_exporter.proofs.expiring.look.Goals as goal

pub loop-shard-preserved : goal.loop-shard-preserved
loop-shard-preserved c =
    let r = c.args.recency.now in
    found-next (rules_of r) c.args.now (table_of key_eq r) c.args.shards.now c.loop-shard.shard-index c.shard-item.result c.loop-shard.found c.in_ok-found.found c.in_ok-found-2.found c.in_ok-found-3.found
    c.loop-shard-test.true c.shard-item.is c.loop-shard.invariant c.in_ok-found.ensures.ok c.in_ok-found-2.ensures.ok c.in_ok-found-3.ensures.ok
