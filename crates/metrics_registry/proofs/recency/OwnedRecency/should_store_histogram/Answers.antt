use Rattle.std.proofs.Common.{rules, ◌∙◌, refl}
use Rattle.metrics_names.specs.declared.kind.MetricKind.TheVariants.{Histogram}
use Rattle.metrics_registry.specs.RecencyEntries.{rules_of, table_of}
use Rattle.metrics_registry.proofs.ShardLemmas.{storage_is, count_is, counters_are, gauges_are, histograms_are, kept-placed, kept-entries, checks-there}
use Rattle.metrics_registry.proofs.recency.OwnedRecency.should_store_histogram.Goals as goal

pub invariant_of-registry : goal.invariant_of-registry
invariant_of-registry g c = (search rules, kept-placed g.K.PartialEq.eq g.K.Hashable.number c.registry.inside.shards.len c.shard_by_mask-shard.result c.registry.inside.shards.items c.index_mut.result.now (record { counters = c.index_mut.result.now.counters; gauges = c.index_mut.result.now.gauges; histograms = c.check.new.cells }) (search rules) (λ s. s.counters) c.registry.invariant.1 refl, kept-placed g.K.PartialEq.eq g.K.Hashable.number c.registry.inside.shards.len c.shard_by_mask-shard.result c.registry.inside.shards.items c.index_mut.result.now (record { counters = c.index_mut.result.now.counters; gauges = c.index_mut.result.now.gauges; histograms = c.check.new.cells }) (search rules) (λ s. s.gauges) c.registry.invariant.2 refl, (checks-there g.met.K.Eq.laws g.K.Hashable.number g.met.K.Hashable.same c.registry.inside.shards.len c.shard_by_mask-shard.result c.registry.inside.shards.items c.index_mut.result.now (record { counters = c.index_mut.result.now.counters; gauges = c.index_mut.result.now.gauges; histograms = c.check.new.cells }) (λ s. s.histograms) c.args.registry.now.histograms (histograms_are c.registry.view_is) c.registry.invariant.3 (search rules) (search rules) (search rules) c.args.key.now (search rules) (rules_of c.args.self.now) Histogram c.args.generation c.args.now c.check.result (table_of g.K.PartialEq.eq c.args.self.now) (table_of g.K.PartialEq.eq c.check.new.self) c.check.ensures.checked c.check.ensures.once).0)

pub returns-clause-checked : goal.returns-clause-checked
returns-clause-checked g c = (checks-there g.met.K.Eq.laws g.K.Hashable.number g.met.K.Hashable.same c.registry.inside.shards.len c.shard_by_mask-shard.result c.registry.inside.shards.items c.index_mut.result.now (record { counters = c.index_mut.result.now.counters; gauges = c.index_mut.result.now.gauges; histograms = c.check.new.cells }) (λ s. s.histograms) c.args.registry.now.histograms (histograms_are c.registry.view_is) c.registry.invariant.3 (search rules) (search rules) (search rules) c.args.key.now (search rules) (rules_of c.args.self.now) Histogram c.args.generation c.args.now c.check.result (table_of g.K.PartialEq.eq c.args.self.now) (table_of g.K.PartialEq.eq c.check.new.self) c.check.ensures.checked c.check.ensures.once).1

pub returns-clause-rest : goal.returns-clause-rest
returns-clause-rest g c = (storage_is c.registry.view_is, count_is c.registry.view_is, kept-entries g.K.PartialEq.eq g.K.Hashable.number c.registry.inside.shards.len c.shard_by_mask-shard.result c.registry.inside.shards.items c.index_mut.result.now (record { counters = c.index_mut.result.now.counters; gauges = c.index_mut.result.now.gauges; histograms = c.check.new.cells }) (search rules) (λ s. s.counters) refl ∙ counters_are c.registry.view_is, kept-entries g.K.PartialEq.eq g.K.Hashable.number c.registry.inside.shards.len c.shard_by_mask-shard.result c.registry.inside.shards.items c.index_mut.result.now (record { counters = c.index_mut.result.now.counters; gauges = c.index_mut.result.now.gauges; histograms = c.check.new.cells }) (search rules) (λ s. s.gauges) refl ∙ gauges_are c.registry.view_is)
