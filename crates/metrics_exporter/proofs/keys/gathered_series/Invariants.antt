-- The shards so far.
use Rattle.std.proofs.Common.{◌≡◌, take}
use Rattle.metrics_exporter.specs.Gathering.{all_seen, walk_of}
use Rattle.metrics_exporter.proofs.keys.gathered_series.Given as goal

abbrev pub invariant-loop-shard : goal.invariant-loop-shard
invariant-loop-shard l = all_seen l.series.items ≡ walk_of (take l.shard-index l.shard-items)
