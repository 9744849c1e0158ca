use Rattle.std.proofs.Common.{◌∙◌, ap, List, map, subst}
use Rattle.std.specs.List.{IsDistinct}
use Rattle.std.specs.Map.{keys_of}
use Rattle.metrics_registry.specs.Held.{entries_of}
use Rattle.metrics_registry.proofs.HeldLemmas.{distinct-placed}
use Rattle.metrics_registry.proofs.ShardLemmas.{counters_are, gauges_are, histograms_are}
use Rattle.metrics_registry.proofs.registry.OwnedRegistry.shards.Goals as goal

pub returns-clause-counters : goal.returns-clause-counters
returns-clause-counters g c = ap (λ l. entries_of (map (λ s. s.counters) l)) c.deref.ensures.value ∙ counters_are c.self.view_is

pub returns-clause-gauges : goal.returns-clause-gauges
returns-clause-gauges g c = ap (λ l. entries_of (map (λ s. s.gauges) l)) c.deref.ensures.value ∙ gauges_are c.self.view_is

pub returns-clause-histograms : goal.returns-clause-histograms
returns-clause-histograms g c = ap (λ l. entries_of (map (λ s. s.histograms) l)) c.deref.ensures.value ∙ histograms_are c.self.view_is

pub returns-clause-once : goal.returns-clause-once
returns-clause-once g c =
    let C : List (g.row.K.Denot × g.row.S-Counter.Denot) → Type 0 = λ es. IsDistinct g.K.PartialEq.eq (keys_of es) in
    let G : List (g.row.K.Denot × g.row.S-Gauge.Denot) → Type 0 = λ es. IsDistinct g.K.PartialEq.eq (keys_of es) in
    let H : List (g.row.K.Denot × g.row.S-Histogram.Denot) → Type 0 = λ es. IsDistinct g.K.PartialEq.eq (keys_of es) in (
      subst C (counters_are c.self.view_is) (distinct-placed g.met.K.Eq.laws g.K.Hashable.number g.met.K.Hashable.same c.self.inside.shards.len 0 (map (λ s. s.counters) c.self.inside.shards.items) c.self.invariant.1),
      subst G (gauges_are c.self.view_is) (distinct-placed g.met.K.Eq.laws g.K.Hashable.number g.met.K.Hashable.same c.self.inside.shards.len 0 (map (λ s. s.gauges) c.self.inside.shards.items) c.self.invariant.2),
      subst H (histograms_are c.self.view_is) (distinct-placed g.met.K.Eq.laws g.K.Hashable.number g.met.K.Hashable.same c.self.inside.shards.len 0 (map (λ s. s.histograms) c.self.inside.shards.items) c.self.invariant.3),
    )
