-- The entries so far.
use Rattle.std.proofs.Common.{◌≡◌, ◌+◌, ◌-◌, ◌^◌, map, take, length, min}
use Rattle.metrics_registry.specs.Held.{entries_of}
use Rattle.metrics_exporter.proofs.keys.held_number.Given as goal

abbrev pub invariant-loop-shard : goal.invariant-loop-shard
invariant-loop-shard l =
    l.number ≡ min (length (entries_of (take l.shard-index (map (λ s. s.counters) l.shard-items)))
    + (length (entries_of (take l.shard-index (map (λ s. s.gauges) l.shard-items))) + length (entries_of (take l.shard-index (map (λ s. s.histograms) l.shard-items))))) (2 ^ 64 - 1)
