use Rattle.std.proofs.Common.{rules, ◌≡◌, ◌∙◌, sym, ap, subst, List, [], ◌∷◌, ◌++◌, map}
use Rattle.std.proofs.lemmas.List.{map-append, append_assoc}
use Rattle.std.proofs.lemmas.Map.Iter.{rest_so_far, rest_more}
use Rattle.std.specs.HashMap.{get}
use Rattle.std.specs.List.{IsDistinct}
use Rattle.std.specs.Map.{keys_of}
use Rattle.std.specs.Map.Iter.{deref_pair}
use Rattle.metrics_registry.specs.Held.{Copies, CopiesFront}
use Rattle.metrics_registry.proofs.HandlesLemmas.{copies-append, copies-along, distinct-front}
use Rattle.metrics_registry.proofs.cells.Cells.copy_into.Goals as goal

pub loop-key-preserved : goal.loop-key-preserved
loop-key-preserved g c =
    let eq = g.K.PartialEq.eq in
    let es = map deref_pair c.loop-key.yielded in
    let e : g.row.K.Denot × g.row.C.Denot = (c.in-Some.key.now, c.in-Some.cell.now) in
    let gives = c.into_iter-key-iterator.ensures.into_iter_gives in
    let so : c.self.inside.map.entries ≡ es ++ c.loop-key.key-iterator = sym gives.0 ∙ rest_so_far deref_pair c.loop-key.yielded _ _ c.loop-key.yielded_by in
    let more : c.loop-key.key-iterator ≡ e ∷ c.next.new.self = rest_more deref_pair _ _ _ (c.in-Some.key, c.in-Some.cell) c.in-Some.is c.next.ensures.steps in
    let whole : c.self.inside.map.entries ≡ (es ++ e ∷ []) ++ c.next.new.self = so ∙ (ap (λ t. es ++ t) more ∙ sym (append_assoc es (e ∷ []) c.next.new.self)) in
    let D : List (g.row.K.Denot × g.row.C.Denot) → Type 0 = λ l. IsDistinct eq (keys_of l) in
    let distinct = distinct-front eq (es ++ e ∷ []) c.next.new.self (subst D whole gives.4) in
    let P : List (g.row.K.Denot × g.row.C.Denot) → Type 0 = λ l. Copies eq g.C.Clone.is_clone l (get eq c.args.handles.now) (get eq c.copy_one.new.handles) in
    subst P (sym (map-append deref_pair c.loop-key.yielded ((c.in-Some.key, c.in-Some.cell) ∷ [])))
    (copies-append g.met.K.Eq.laws g.C.Clone.is_clone es (e ∷ []) (get eq c.args.handles.now) (get eq c.loop-key.handles) (get eq c.copy_one.new.handles) distinct c.loop-key.invariant c.in_ok-copy_one.ensures.ok)

pub returns-in_err-copy_one-clause-err : goal.returns-in_err-copy_one-clause-err
returns-in_err-copy_one-clause-err g c =
    let eq = g.K.PartialEq.eq in
    let es = map deref_pair c.loop-key.yielded in
    let so : c.self.inside.map.entries ≡ es ++ c.loop-key.key-iterator =
    sym c.into_iter-key-iterator.ensures.into_iter_gives.0 ∙ rest_so_far deref_pair c.loop-key.yielded _ _ c.loop-key.yielded_by in
    let e : g.row.K.Denot × g.row.C.Denot = (c.in-Some.key.now, c.in-Some.cell.now) in
    let more : c.loop-key.key-iterator ≡ e ∷ c.next.new.self = rest_more deref_pair _ _ _ (c.in-Some.key, c.in-Some.cell) c.in-Some.is c.next.ensures.steps in
    let front : CopiesFront eq g.C.Clone.is_clone c.args.self.now (get eq c.args.handles.now) (get eq c.copy_one.new.handles) =
    (es, e, c.next.new.self, sym c.self.view_is ∙ (so ∙ ap (λ t. es ++ t) more), copies-along eq g.C.Clone.is_clone es (get eq c.args.handles.now) (get eq c.loop-key.handles) (get eq c.copy_one.new.handles) c.loop-key.invariant c.in_err-copy_one.ensures.err.1) in
    search (rules, front)
