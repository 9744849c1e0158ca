use Rattle.std.proofs.Common.{take, map}
use Rattle.std.specs.List.{FoldsTo}
use Rattle.metrics_registry.specs.Held.{CallsAtEntry, entries_of}
use Rattle.metrics_registry.proofs.registry.OwnedRegistry.visit_histograms.Given as goal

abbrev pub invariant-loop-shard : goal.invariant-loop-shard
invariant-loop-shard g l = FoldsTo (λ p e q. CallsAtEntry g.F.FnMut p e tt q) l.initial.f (entries_of (take l.shard-index (map (λ s. s.histograms) l.shard-items))) l.f
