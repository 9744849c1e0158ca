use Rattle.std.proofs.Common.{rules, sym, subst, List, map}
use Rattle.std.specs.List.{IsDistinct}
use Rattle.std.specs.Map.{keys_of}
use Rattle.metrics_registry.proofs.HeldLemmas.{distinct-placed}
use Rattle.metrics_registry.proofs.ShardLemmas.{counters_are, gauges_are, histograms_are, held-there}
use Rattle.metrics_registry.proofs.registry.OwnedRegistry.shard.Goals as goal

pub returns-clause-counters : goal.returns-clause-counters
returns-clause-counters g c =
    let P : List (g.row.K.Denot × g.row.S-Counter.Denot) → Type 0 = λ es. IsDistinct g.K.PartialEq.eq (keys_of es) in (
      sym (held-there g.met.K.Eq.laws g.K.Hashable.number g.met.K.Hashable.same c.self.inside.shards.len c.shard_by_mask-shard.result c.self.inside.shards.items c.index.result.now c.index.result.now (λ s. s.counters) c.args.self.now.counters (counters_are c.self.view_is) c.self.invariant.1 (search rules) (search rules) (search rules) c.args.key.now (search rules)),
      subst P (counters_are c.self.view_is) (distinct-placed g.met.K.Eq.laws g.K.Hashable.number g.met.K.Hashable.same c.self.inside.shards.len 0 (map (λ s. s.counters) c.self.inside.shards.items) c.self.invariant.1),
    )

pub returns-clause-gauges : goal.returns-clause-gauges
returns-clause-gauges g c =
    let P : List (g.row.K.Denot × g.row.S-Gauge.Denot) → Type 0 = λ es. IsDistinct g.K.PartialEq.eq (keys_of es) in (
      sym (held-there g.met.K.Eq.laws g.K.Hashable.number g.met.K.Hashable.same c.self.inside.shards.len c.shard_by_mask-shard.result c.self.inside.shards.items c.index.result.now c.index.result.now (λ s. s.gauges) c.args.self.now.gauges (gauges_are c.self.view_is) c.self.invariant.2 (search rules) (search rules) (search rules) c.args.key.now (search rules)),
      subst P (gauges_are c.self.view_is) (distinct-placed g.met.K.Eq.laws g.K.Hashable.number g.met.K.Hashable.same c.self.inside.shards.len 0 (map (λ s. s.gauges) c.self.inside.shards.items) c.self.invariant.2),
    )

pub returns-clause-histograms : goal.returns-clause-histograms
returns-clause-histograms g c =
    let P : List (g.row.K.Denot × g.row.S-Histogram.Denot) → Type 0 = λ es. IsDistinct g.K.PartialEq.eq (keys_of es) in (
      sym (held-there g.met.K.Eq.laws g.K.Hashable.number g.met.K.Hashable.same c.self.inside.shards.len c.shard_by_mask-shard.result c.self.inside.shards.items c.index.result.now c.index.result.now (λ s. s.histograms) c.args.self.now.histograms (histograms_are c.self.view_is) c.self.invariant.3 (search rules) (search rules) (search rules) c.args.key.now (search rules)),
      subst P (histograms_are c.self.view_is) (distinct-placed g.met.K.Eq.laws g.K.Hashable.number g.met.K.Hashable.same c.self.inside.shards.len 0 (map (λ s. s.histograms) c.self.inside.shards.items) c.self.invariant.3),
    )
