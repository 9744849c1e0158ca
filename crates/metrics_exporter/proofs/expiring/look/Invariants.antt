-- The shards so far.
use Rattle.std.proofs.Common.{take}
use Rattle.metrics_names.specs.Names.{key_eq}
use Rattle.metrics_registry.specs.RecencyEntries.{rules_of, table_of}
use Rattle.metrics_exporter.specs.Gathering.{walk_of}
use Rattle.metrics_exporter.specs.Stepping.{AreFound}
use Rattle.metrics_exporter.proofs.expiring.look.Given as goal

abbrev pub invariant-loop-shard : goal.invariant-loop-shard
invariant-loop-shard l = AreFound (rules_of l.recency) l.now (table_of key_eq l.recency) (walk_of (take l.shard-index l.shards)) l.found
