use Rattle.std.proofs.Common.{◌≡◌, vec_len, take}
use Rattle.metrics_registry.proofs.ShardLemmas.{AreBare}
use Rattle.metrics_registry.proofs.registry.OwnedRegistry.clear.Given as goal

abbrev pub invariant-loop-i : goal.invariant-loop-i
invariant-loop-i g l =
    (vec_len l.self-inside.shards ≡ vec_len l.initial.self-inside.shards) × (l.self-inside.storage ≡ l.initial.self-inside.storage)
    × AreBare (take l.i l.self-inside.shards.items) (λ s. s.counters) × AreBare (take l.i l.self-inside.shards.items) (λ s. s.gauges) × AreBare (take l.i l.self-inside.shards.items) (λ s. s.histograms)
