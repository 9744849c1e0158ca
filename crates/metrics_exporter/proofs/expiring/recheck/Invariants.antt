-- The shards so far.
use Rattle.std.proofs.Common.{take}
use Rattle.metrics_exporter.specs.Gathering.{walk_of}
use Rattle.metrics_exporter.specs.Stepping.{Rechecks}
use Rattle.metrics_exporter.proofs.expiring.recheck.Given as goal

abbrev pub invariant-loop-shard : goal.invariant-loop-shard
invariant-loop-shard l = Rechecks l.now (walk_of (take l.shard-index l.shards)) l.initial.recency l.recency
