use Rattle.std.proofs.Common.{◌≡◌, take, map, vec_len}
use Rattle.metrics_registry.specs.Held.{CallsAtEntry, Retains, ArePlaced, entries_of}
use Rattle.metrics_registry.proofs.RetainLemmas.{SameFrom}
use Rattle.metrics_registry.proofs.registry.OwnedRegistry.retain_histograms.Given as goal

abbrev pub invariant-loop-i : goal.invariant-loop-i
invariant-loop-i g l =
    (vec_len l.self-inside.shards ≡ vec_len l.initial.self-inside.shards)
    × ArePlaced g.K.PartialEq.eq g.K.Hashable.number (vec_len l.initial.self-inside.shards) 0 (map (λ s. s.histograms) l.self-inside.shards.items)
    × Retains (λ p e b q. CallsAtEntry g.F.FnMut p e b q) l.initial.f (entries_of (take l.i (map (λ s. s.histograms) l.initial.self-inside.shards.items))) (entries_of (take l.i (map (λ s. s.histograms) l.self-inside.shards.items))) l.f
    × SameFrom l.i (map (λ s. s.histograms) l.initial.self-inside.shards.items) (map (λ s. s.histograms) l.self-inside.shards.items)
    × (map (λ s. s.counters) l.self-inside.shards.items ≡ map (λ s. s.counters) l.initial.self-inside.shards.items)
    × (map (λ s. s.gauges) l.self-inside.shards.items ≡ map (λ s. s.gauges) l.initial.self-inside.shards.items)
    × (l.self-inside.storage ≡ l.initial.self-inside.storage)
