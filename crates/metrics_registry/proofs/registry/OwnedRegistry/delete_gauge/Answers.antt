use Rattle.std.proofs.Common.{rules, ◌∙◌, refl}
use Rattle.metrics_registry.proofs.ShardLemmas.{storage_is, count_is, counters_are, gauges_are, histograms_are, kept-placed, kept-entries, removes-there}
use Rattle.metrics_registry.proofs.registry.OwnedRegistry.delete_gauge.Goals as goal

pub invariant_of-self : goal.invariant_of-self
invariant_of-self g c = (search rules, kept-placed g.K.PartialEq.eq g.K.Hashable.number c.self.inside.shards.len c.shard_by_mask-shard.result c.self.inside.shards.items c.index_mut.result.now (record { counters = c.index_mut.result.now.counters; gauges = c.remove.new.self; histograms = c.index_mut.result.now.histograms }) (search rules) (λ s. s.counters) c.self.invariant.1 refl, (removes-there g.met.K.Eq.laws g.K.Hashable.number g.met.K.Hashable.same c.self.inside.shards.len c.shard_by_mask-shard.result c.self.inside.shards.items c.index_mut.result.now (record { counters = c.index_mut.result.now.counters; gauges = c.remove.new.self; histograms = c.index_mut.result.now.histograms }) (λ s. s.gauges) c.args.self.now.gauges (gauges_are c.self.view_is) c.self.invariant.2 (search rules) (search rules) (search rules) c.args.key.now (search rules) c.remove.result c.remove.ensures.removed c.remove.ensures.once).0, kept-placed g.K.PartialEq.eq g.K.Hashable.number c.self.inside.shards.len c.shard_by_mask-shard.result c.self.inside.shards.items c.index_mut.result.now (record { counters = c.index_mut.result.now.counters; gauges = c.remove.new.self; histograms = c.index_mut.result.now.histograms }) (search rules) (λ s. s.histograms) c.self.invariant.3 refl)

pub returns-clause-removed : goal.returns-clause-removed
returns-clause-removed g c = (removes-there g.met.K.Eq.laws g.K.Hashable.number g.met.K.Hashable.same c.self.inside.shards.len c.shard_by_mask-shard.result c.self.inside.shards.items c.index_mut.result.now (record { counters = c.index_mut.result.now.counters; gauges = c.remove.new.self; histograms = c.index_mut.result.now.histograms }) (λ s. s.gauges) c.args.self.now.gauges (gauges_are c.self.view_is) c.self.invariant.2 (search rules) (search rules) (search rules) c.args.key.now (search rules) c.remove.result c.remove.ensures.removed c.remove.ensures.once).1

pub returns-clause-rest : goal.returns-clause-rest
returns-clause-rest g c = (storage_is c.self.view_is, count_is c.self.view_is, kept-entries g.K.PartialEq.eq g.K.Hashable.number c.self.inside.shards.len c.shard_by_mask-shard.result c.self.inside.shards.items c.index_mut.result.now (record { counters = c.index_mut.result.now.counters; gauges = c.remove.new.self; histograms = c.index_mut.result.now.histograms }) (search rules) (λ s. s.counters) refl ∙ counters_are c.self.view_is, kept-entries g.K.PartialEq.eq g.K.Hashable.number c.self.inside.shards.len c.shard_by_mask-shard.result c.self.inside.shards.items c.index_mut.result.now (record { counters = c.index_mut.result.now.counters; gauges = c.remove.new.self; histograms = c.index_mut.result.now.histograms }) (search rules) (λ s. s.histograms) refl ∙ histograms_are c.self.view_is)
