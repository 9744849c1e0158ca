use Rattle.std.proofs.Common.{◌≡◌, ◌≤◌, vec_len, vec_capacity}
use Rattle.metrics_registry.proofs.ShardLemmas.{AreBare}
use Rattle.metrics_registry.proofs.registry.OwnedRegistry.new.Given as goal

abbrev pub invariant-loop : goal.invariant-loop
invariant-loop g l =
    (vec_len l.kinds ≡ l.counter) × (l.shards ≤ vec_capacity l.kinds)
    × AreBare l.kinds.items (λ s. s.counters) × AreBare l.kinds.items (λ s. s.gauges) × AreBare l.kinds.items (λ s. s.histograms)
