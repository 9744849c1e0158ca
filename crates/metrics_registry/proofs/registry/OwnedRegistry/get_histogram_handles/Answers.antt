use Rattle.std.proofs.Common.{rules, ◌≡◌, [], ◌∙◌, ap, sym, subst, List, ◌+◌, take, map, None}
use Rattle.std.specs.HashMap.{get}
use Rattle.std.specs.List.{IsDistinct}
use Rattle.std.specs.Map.{keys_of}
use Rattle.metrics_registry.specs.Held.{Copies, ArePlaced, entries_of}
use Rattle.metrics_registry.proofs.HeldLemmas.{distinct-placed}
use Rattle.metrics_registry.proofs.HandlesLemmas.{copies-append, placed-take}
use Rattle.metrics_registry.proofs.ShardLemmas.{histograms_are, entries-here, entries-all, some-entry}
use Rattle.metrics_registry.proofs.registry.OwnedRegistry.get_histogram_handles.Goals as goal

pub loop-shard-preserved : goal.loop-shard-preserved
loop-shard-preserved g c =
    let eq = g.K.PartialEq.eq in
    let ms = c.deref-shard-items.result.now in
    let i = c.loop-shard.shard-index in
    let more = entries-here ms (λ s. s.histograms) i c.shard-item.result c.loop-shard-test.true c.shard-item.is in
    let D : List (g.row.K.Denot × g.row.S-Histogram.Denot) → Type 0 = λ l. IsDistinct eq (keys_of l) in
    let placed : ArePlaced eq g.K.Hashable.number c.self.inside.shards.len 0 (map (λ s. s.histograms) ms) = rw c.deref-shard-items.ensures.value c.self.invariant.3 in
    let distinct = subst D more (distinct-placed g.met.K.Eq.laws g.K.Hashable.number g.met.K.Hashable.same c.self.inside.shards.len 0 (take (i + 1) (map (λ s. s.histograms) ms)) (placed-take eq g.K.Hashable.number c.self.inside.shards.len 0 (i + 1) (map (λ s. s.histograms) ms) placed)) in
    let P : List (g.row.K.Denot × g.row.S-Histogram.Denot) → Type 0 = λ l. Copies eq g.S.Histogram.Clone.is_clone l (λ _. None) (get eq c.copy_into.new.handles) in
    subst P (sym more)
    (copies-append g.met.K.Eq.laws g.S.Histogram.Clone.is_clone (entries_of (take i (map (λ s. s.histograms) ms))) c.shard-item.result.histograms (λ _. None) (get eq c.loop-shard.handles) (get eq c.copy_into.new.handles) distinct c.loop-shard.invariant c.in_ok-copy_into.ensures.ok)

pub returns : goal.returns
returns g c =
    let P : List (g.row.K.Denot × g.row.S-Histogram.Denot) → Type 0 = λ l. Copies g.K.PartialEq.eq g.S.Histogram.Clone.is_clone l (λ _. None) (get g.K.PartialEq.eq c.loop-shard.handles) in
    subst P (entries-all c.deref-shard-items.result.now (λ s. s.histograms) c.loop-shard.shard-index c.loop-shard-test.false ∙ (ap (λ l. entries_of (map (λ s. s.histograms) l)) c.deref-shard-items.ensures.value ∙ histograms_are c.self.view_is)) c.loop-shard.invariant

pub returns-in_err-copy_into : goal.returns-in_err-copy_into
returns-in_err-copy_into g c =
    let ms = c.deref-shard-items.result.now in
    let left = c.in_err-copy_into.ensures.err.1 in
    let some : ¬ (c.args.self.now.histograms ≡ []) =
    λ none. some-entry ms (λ s. s.histograms) c.loop-shard.shard-index c.shard-item.result left.0 left.1 left.2 c.loop-shard-test.true c.shard-item.is left.3
    (ap (λ l. entries_of (map (λ s. s.histograms) l)) c.deref-shard-items.ensures.value ∙ (histograms_are c.self.view_is ∙ none)) in
    search (rules, some)
