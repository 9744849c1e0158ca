use Rattle.std.proofs.Common.{take, map, None}
use Rattle.std.specs.HashMap.{get}
use Rattle.metrics_registry.specs.Held.{Copies, entries_of}
use Rattle.metrics_registry.proofs.registry.OwnedRegistry.get_counter_handles.Given as goal

abbrev pub invariant-loop-shard : goal.invariant-loop-shard
invariant-loop-shard g l = Copies g.K.PartialEq.eq g.S.Counter.Clone.is_clone (entries_of (take l.shard-index (map (λ s. s.counters) l.shard-items))) (λ _. None) (get g.K.PartialEq.eq l.handles)
