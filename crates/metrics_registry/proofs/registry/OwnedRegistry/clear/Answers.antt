use Rattle.std.proofs.Common.{rules, ◌∙◌}
use Rattle.metrics_registry.proofs.ShardLemmas.{storage_is, count_is, bare-more, bare-all, bare-placed, bare-entries, shows-nothing}
use Rattle.metrics_registry.proofs.registry.OwnedRegistry.clear.Goals as goal

pub invariant_of-self : goal.invariant_of-self
invariant_of-self g c =
    let i = c.loop-i.invariant in
    (search rules, bare-placed _ _ _ _ c.loop-i.self-inside.shards.items (λ s. s.counters) (bare-all c.loop-i.i c.loop-i.self-inside.shards.items (λ s. s.counters) (search rules) i.2), bare-placed _ _ _ _ c.loop-i.self-inside.shards.items (λ s. s.gauges) (bare-all c.loop-i.i c.loop-i.self-inside.shards.items (λ s. s.gauges) (search rules) i.3), bare-placed _ _ _ _ c.loop-i.self-inside.shards.items (λ s. s.histograms) (bare-all c.loop-i.i c.loop-i.self-inside.shards.items (λ s. s.histograms) (search rules) i.4))

pub loop-i-preserved : goal.loop-i-preserved
loop-i-preserved g c =
    let i = c.loop-i.invariant in
    (i.0, i.1, bare-more c.loop-i.i c.loop-i.self-inside.shards.items (record { counters = c.clear.new.self; gauges = c.clear-in-loop-i.new.self; histograms = c.clear-in-loop-i-2.new.self }) (λ s. s.counters) (search rules) c.clear.ensures i.2, bare-more c.loop-i.i c.loop-i.self-inside.shards.items (record { counters = c.clear.new.self; gauges = c.clear-in-loop-i.new.self; histograms = c.clear-in-loop-i-2.new.self }) (λ s. s.gauges) (search rules) c.clear-in-loop-i.ensures i.3, bare-more c.loop-i.i c.loop-i.self-inside.shards.items (record { counters = c.clear.new.self; gauges = c.clear-in-loop-i.new.self; histograms = c.clear-in-loop-i-2.new.self }) (λ s. s.histograms) (search rules) c.clear-in-loop-i-2.ensures i.4)

pub returns : goal.returns
returns g c =
    let i = c.loop-i.invariant in
    shows-nothing _ _ _ _ _ _ _ (i.1 ∙ storage_is c.self.view_is) (i.0 ∙ count_is c.self.view_is) (bare-entries c.loop-i.self-inside.shards.items (λ s. s.counters) (bare-all c.loop-i.i c.loop-i.self-inside.shards.items (λ s. s.counters) (search rules) i.2)) (bare-entries c.loop-i.self-inside.shards.items (λ s. s.gauges) (bare-all c.loop-i.i c.loop-i.self-inside.shards.items (λ s. s.gauges) (search rules) i.3)) (bare-entries c.loop-i.self-inside.shards.items (λ s. s.histograms) (bare-all c.loop-i.i c.loop-i.self-inside.shards.items (λ s. s.histograms) (search rules) i.4))
