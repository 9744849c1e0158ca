use Rattle.std.proofs.Common.{◌≡◌, ◌∙◌, ap, refl, sym, subst, List, ◌∷◌, [], ◌++◌, map}
use Rattle.std.proofs.lemmas.List.{map-append}
use Rattle.std.proofs.lemmas.Fn.{FoldsTo-push}
use Rattle.std.proofs.lemmas.Map.Iter.{iter_end, rest_so_far, rest_more}
use Rattle.std.specs.List.{FoldsTo}
use Rattle.std.specs.Map.Iter.{deref_pair}
use Rattle.metrics_registry.specs.Held.{CallsAtEntry}
use Rattle.metrics_registry.proofs.WalkLemmas.{folds-some, always-after}
use Rattle.metrics_registry.proofs.cells.Cells.visit.Goals as goal

pub f-requires : goal.f-requires
f-requires g c =
    let es = map deref_pair c.loop-key.yielded in
    let e : g.row.K.Denot × g.row.C.Denot = (c.in-Some.key.now, c.in-Some.cell.now) in
    let so : c.self.inside.map.entries ≡ es ++ c.loop-key.key-iterator = sym c.into_iter-key-iterator.ensures.into_iter_gives.0 ∙ rest_so_far deref_pair c.loop-key.yielded _ _ c.loop-key.yielded_by in
    let more : c.loop-key.key-iterator ≡ e ∷ c.next.new.self = rest_more deref_pair _ _ _ (c.in-Some.key, c.in-Some.cell) c.in-Some.is c.next.ensures.steps in
    c.requires.at es c.next.new.self c.loop-key.f e (sym c.self.view_is ∙ (so ∙ ap (λ t. es ++ t) more)) (folds-some g.F.FnMut tt c.args.f c.loop-key.f es c.loop-key.invariant) c.in-Some.key c.in-Some.cell refl refl

pub loop-key-preserved : goal.loop-key-preserved
loop-key-preserved g c =
    let P : List (g.row.K.Denot × g.row.C.Denot) → Type 0 = λ es. FoldsTo (λ p e q. CallsAtEntry g.F.FnMut p e tt q) c.args.f es c.f.new.self in
    subst P (sym (map-append deref_pair c.loop-key.yielded ((c.in-Some.key, c.in-Some.cell) ∷ [])))
    (FoldsTo-push _ c.args.f _ c.loop-key.f (c.in-Some.key.now, c.in-Some.cell.now) c.f.new.self c.loop-key.invariant
    (record { key = c.in-Some.key; cell = c.in-Some.cell; shows = (refl, refl); called = c.f.ensures }))

pub returns-clause-calls : goal.returns-clause-calls
returns-clause-calls g c =
    let P : List (g.row.K.Denot × g.row.C.Denot) → Type 0 = λ es. FoldsTo (λ p e q. CallsAtEntry g.F.FnMut p e tt q) c.args.f es c.loop-key.f in
    subst P ((iter_end deref_pair c.self.inside.map.entries c.loop-key.yielded _ _ _ _ c.into_iter-key-iterator.ensures.into_iter_gives.0 c.loop-key.yielded_by c.in-None.is c.next.ensures.steps).0 ∙ c.self.view_is) c.loop-key.invariant

pub returns-clause-callable : goal.returns-clause-callable
returns-clause-callable g c = λ always. always-after g.F.FnMut c.args.f c.loop-key.f (map deref_pair c.loop-key.yielded) (folds-some g.F.FnMut tt c.args.f c.loop-key.f (map deref_pair c.loop-key.yielded) c.loop-key.invariant) always
