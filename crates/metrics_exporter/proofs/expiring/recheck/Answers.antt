use Rattle.metrics_exporter.proofs.NotingLemmas.{rechecks-next}
use Rattle.metrics_exporter.proofs.expiring.recheck.Goals as goal

pub loop-shard-preserved : goal.loop-shard-preserved
loop-shard-preserved c =
    rechecks-next c.args.now c.args.shards.now c.loop-shard.shard-index c.shard-item.result c.args.recency.now _ _ _ _ c.loop-shard-test.true c.shard-item.is
    c.loop-shard.invariant c.recheck_cells.ensures c.recheck_cells-in-loop-shard.ensures c.recheck_cells-in-loop-shard-2.ensures
