use Rattle.std.proofs.Common.{rules, ◌∙◌}
use Rattle.std.specs.Fn.{FnOnceReturnsAtMut, FnOnceTakesAtMut}
use Rattle.metrics_registry.proofs.ShardLemmas.{storage_is, count_is, counters_are, gauges_are, histograms_are, kept-placed, kept-entries, gets-there, may-call-there}
use Rattle.metrics_registry.proofs.registry.OwnedRegistry.get_or_make_histogram.Goals as goal

pub invariant_of-self : goal.invariant_of-self
invariant_of-self g c = (search rules, kept-placed g.K.PartialEq.eq g.K.Hashable.number c.self.inside.shards.len c.shard_by_mask-shard.result c.self.inside.shards.items c.index_mut.result.now c.get_or_make_histogram.new.self (search rules) (λ s. s.counters) c.self.invariant.1 c.get_or_make_histogram.ensures.rest.0, kept-placed g.K.PartialEq.eq g.K.Hashable.number c.self.inside.shards.len c.shard_by_mask-shard.result c.self.inside.shards.items c.index_mut.result.now c.get_or_make_histogram.new.self (search rules) (λ s. s.gauges) c.self.invariant.2 c.get_or_make_histogram.ensures.rest.1, (gets-there g.met.K.Eq.laws g.K.Hashable.number g.met.K.Hashable.same c.self.inside.shards.len c.shard_by_mask-shard.result c.self.inside.shards.items c.index_mut.result.now c.get_or_make_histogram.new.self (λ s. s.histograms) c.args.self.now.histograms (histograms_are c.self.view_is) c.self.invariant.3 (search rules) (search rules) (search rules) c.args.key.now (search rules) c.get_or_make_histogram.result g.K.Clone.is_clone (g.M.HistogramMaker.makes c.args.maker.now) c.self.inside.storage c.args.self.now.storage (FnOnceReturnsAtMut g.F.FnOnce c.args.op) c.args.self.now.count (storage_is c.self.view_is) (count_is c.self.view_is) c.get_or_make_histogram.ensures.histograms c.get_or_make_histogram.ensures.once).0)

pub returns-clause-histograms : goal.returns-clause-histograms
returns-clause-histograms g c = (gets-there g.met.K.Eq.laws g.K.Hashable.number g.met.K.Hashable.same c.self.inside.shards.len c.shard_by_mask-shard.result c.self.inside.shards.items c.index_mut.result.now c.get_or_make_histogram.new.self (λ s. s.histograms) c.args.self.now.histograms (histograms_are c.self.view_is) c.self.invariant.3 (search rules) (search rules) (search rules) c.args.key.now (search rules) c.get_or_make_histogram.result g.K.Clone.is_clone (g.M.HistogramMaker.makes c.args.maker.now) c.self.inside.storage c.args.self.now.storage (FnOnceReturnsAtMut g.F.FnOnce c.args.op) c.args.self.now.count (storage_is c.self.view_is) (count_is c.self.view_is) c.get_or_make_histogram.ensures.histograms c.get_or_make_histogram.ensures.once).1

pub returns-clause-rest : goal.returns-clause-rest
returns-clause-rest g c = (storage_is c.self.view_is, count_is c.self.view_is, kept-entries g.K.PartialEq.eq g.K.Hashable.number c.self.inside.shards.len c.shard_by_mask-shard.result c.self.inside.shards.items c.index_mut.result.now c.get_or_make_histogram.new.self (search rules) (λ s. s.counters) c.get_or_make_histogram.ensures.rest.0 ∙ counters_are c.self.view_is, kept-entries g.K.PartialEq.eq g.K.Hashable.number c.self.inside.shards.len c.shard_by_mask-shard.result c.self.inside.shards.items c.index_mut.result.now c.get_or_make_histogram.new.self (search rules) (λ s. s.gauges) c.get_or_make_histogram.ensures.rest.1 ∙ gauges_are c.self.view_is)

pub get_or_make_histogram-requires : goal.get_or_make_histogram-requires
get_or_make_histogram-requires g c = may-call-there g.met.K.Eq.laws g.K.Hashable.number g.met.K.Hashable.same c.self.inside.shards.len c.shard_by_mask-shard.result c.self.inside.shards.items c.index_mut.result.now c.index_mut.result.now (λ s. s.histograms) c.args.self.now.histograms (histograms_are c.self.view_is) c.self.invariant.3 (search rules) (search rules) (search rules) c.args.key.now (search rules) (FnOnceTakesAtMut g.F.FnOnce c.args.op) (g.M.HistogramMaker.makes c.args.maker.now) c.self.inside.storage c.args.self.now.storage (storage_is c.self.view_is) c.requires
