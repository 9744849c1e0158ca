use Rattle.std.proofs.Common.{rules, ◌∙◌, ap, refl, subst, List, map, take}
use Rattle.std.specs.List.{IsDistinct}
use Rattle.std.specs.Map.{keys_of}
use Rattle.metrics_registry.specs.Held.{CallsAtEntry, Retains, entries_of}
use Rattle.metrics_registry.proofs.HeldLemmas.{distinct-placed}
use Rattle.metrics_registry.proofs.WalkLemmas.{folds-retained}
use Rattle.metrics_registry.proofs.ShardLemmas.{storage_is, count_is, counters_are, gauges_are, histograms_are, takes-next, entries-all, retained-here, map-kept, as-before}
use Rattle.metrics_registry.proofs.registry.OwnedRegistry.retain_histograms.Goals as goal

pub invariant_of-self : goal.invariant_of-self
invariant_of-self g c =
    let i = c.loop-i.invariant in
    (search rules, as-before g.K.PartialEq.eq g.K.Hashable.number c.self.inside.shards.len c.loop-i.self-inside.shards.len (map (λ s. s.counters) c.self.inside.shards.items) (map (λ s. s.counters) c.loop-i.self-inside.shards.items) i.0 i.4 c.self.invariant.1, as-before g.K.PartialEq.eq g.K.Hashable.number c.self.inside.shards.len c.loop-i.self-inside.shards.len (map (λ s. s.gauges) c.self.inside.shards.items) (map (λ s. s.gauges) c.loop-i.self-inside.shards.items) i.0 i.5 c.self.invariant.2, as-before g.K.PartialEq.eq g.K.Hashable.number c.self.inside.shards.len c.loop-i.self-inside.shards.len (map (λ s. s.histograms) c.loop-i.self-inside.shards.items) (map (λ s. s.histograms) c.loop-i.self-inside.shards.items) i.0 refl i.1)

pub loop-i-init : goal.loop-i-init
loop-i-init g c = (refl, c.self.invariant.3, (refl, refl), λ k d more. refl, refl, refl, refl)

pub retain-f-requires : goal.retain-f-requires
retain-f-requires g c =
    let i = c.loop-i.invariant in
    takes-next c.self.inside.shards.items c.loop-i.self-inside.shards.items (λ s. s.histograms) c.loop-i.i c.index_mut-shard.result.now (search rules) (search rules) (search rules) i.3 g.F.FnMut c.args.f c.loop-i.f c.args.self.now.histograms (histograms_are c.self.view_is) c.requires
    (folds-retained g.F.FnMut c.args.f c.loop-i.f (entries_of (take c.loop-i.i (map (λ s. s.histograms) c.self.inside.shards.items))) (entries_of (take c.loop-i.i (map (λ s. s.histograms) c.loop-i.self-inside.shards.items))) i.2)

pub loop-i-preserved : goal.loop-i-preserved
loop-i-preserved g c =
    let i = c.loop-i.invariant in
    let all = retained-here (λ p e b q. CallsAtEntry g.F.FnMut p e b q) g.met.K.Eq.laws g.K.Hashable.number g.met.K.Hashable.same c.self.inside.shards.len c.loop-i.i c.args.f c.loop-i.f c.retain-f.result c.self.inside.shards.items c.loop-i.self-inside.shards.items c.index_mut-shard.result.now (record { counters = c.index_mut-shard.result.now.counters; gauges = c.index_mut-shard.result.now.gauges; histograms = c.retain-f.new.self }) (λ s. s.histograms)
    (search rules) (search rules) (search rules) i.3 i.1 i.2 c.retain-f.ensures.retains c.retain-f.ensures.once.1 in
    (i.0, all.0, all.1, all.2, map-kept (λ s. s.counters) c.loop-i.self-inside.shards.items c.loop-i.i c.index_mut-shard.result.now (record { counters = c.index_mut-shard.result.now.counters; gauges = c.index_mut-shard.result.now.gauges; histograms = c.retain-f.new.self }) (search rules) refl ∙ i.4, map-kept (λ s. s.gauges) c.loop-i.self-inside.shards.items c.loop-i.i c.index_mut-shard.result.now (record { counters = c.index_mut-shard.result.now.counters; gauges = c.index_mut-shard.result.now.gauges; histograms = c.retain-f.new.self }) (search rules) refl ∙ i.5, i.6)

pub returns-clause-retains : goal.returns-clause-retains
returns-clause-retains g c =
    let P : List (g.row.K.Denot × g.row.S-Histogram.Denot) → List (g.row.K.Denot × g.row.S-Histogram.Denot) → Type 0 = λ es ks. Retains (λ p e b q. CallsAtEntry g.F.FnMut p e b q) c.args.f es ks c.loop-i.f in (
      c.loop-i.f,
      subst (λ es. P es (entries_of (map (λ s. s.histograms) c.loop-i.self-inside.shards.items))) (entries-all c.self.inside.shards.items (λ s. s.histograms) c.loop-i.i (search rules) ∙ histograms_are c.self.view_is)
          (subst (P (entries_of (take c.loop-i.i (map (λ s. s.histograms) c.self.inside.shards.items)))) (entries-all c.loop-i.self-inside.shards.items (λ s. s.histograms) c.loop-i.i (search rules)) c.loop-i.invariant.2),
    )

pub returns-clause-rest : goal.returns-clause-rest
returns-clause-rest g c =
    let i = c.loop-i.invariant in
    (i.6 ∙ storage_is c.self.view_is, i.0 ∙ count_is c.self.view_is, ap entries_of i.4 ∙ counters_are c.self.view_is, ap entries_of i.5 ∙ gauges_are c.self.view_is)

pub returns-clause-once : goal.returns-clause-once
returns-clause-once g c =
    let P : List (g.row.K.Denot × g.row.S-Histogram.Denot) → Type 0 = λ es. IsDistinct g.K.PartialEq.eq (keys_of es) in
    subst P (histograms_are c.self.view_is) (distinct-placed g.met.K.Eq.laws g.K.Hashable.number g.met.K.Hashable.same c.self.inside.shards.len 0 (map (λ s. s.histograms) c.self.inside.shards.items) c.self.invariant.3)
