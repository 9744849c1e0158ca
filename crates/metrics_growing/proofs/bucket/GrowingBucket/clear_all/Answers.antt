use Rattle.std.proofs.Common.{rules, ◌≡◌, ◌≢◌, ◌<◌, ◌+◌, ◌++◌, ◌∷◌, [], suc, length, slice_index_or, List, ℕ, map, take, refl, ap, subst, sym, ◌∙◌, arith}
use Rattle.std.proofs.lemmas.List.{map-append, length_push}
use Rattle.std.specs.List.{FoldsTo}
use Rattle.std.specs.Result.{IfErr}
use Rattle.std.proofs.lemmas.Result.{IfErr-weaker}
use Rattle.metrics.specs.declared.error.Error.TheVariants.{Busy}
use Rattle.metrics_bucket.specs.declared.view.Walk.{Walk}
use Rattle.metrics_bucket.specs.Blocks.{valued, newest_first}
use Rattle.metrics_bucket.specs.Account.{Home}
use Rattle.metrics_growing.specs.Parts.{Part, home_of, FirstHeld, Took, all_chunks}
use Rattle.metrics_growing.specs.Bags.{sum_of, places_in, first_weight}
use Rattle.metrics_growing.proofs.Chains.{took_none, no_walk, took_more, count_more, chunks_more, folds_both, pick, home_get, places_more}
use Rattle.metrics_growing.proofs.bucket.GrowingBucket.clear_all.Goals as goal

pub loop-at-preserved : goal.loop-at-preserved
loop-at-preserved g c =
    let known = c.args.known.now.items in
    let at = c.loop-at.at in
    let i = c.loop-at.invariant in
    let walks = i.5.0 in
    let t = c.in_ok-more.ensures.ok in
    let walk = t.0 in
    let l : at < length known = search rules in
    let taken : Took known (walks ++ walk ∷ []) c.clear_one.new.known.items = took_more known walks c.loop-at.known.items c.clear_one.new.known.items at walk i.5.3 i.5.1 l t.2 in
    let value = g.T.Sample.value in
    let chunks : valued value (all_chunks (walks ++ walk ∷ [])) ≡ valued value (all_chunks walks) ++ valued value (newest_first walk.values) =
    ap (valued value) (chunks_more walks walk) ∙ map-append (map value) (all_chunks walks) (newest_first walk.values) in
    let folds = folds_both g.V.Visitor.saw c.args.visitor.now (valued value (all_chunks walks)) (valued value (newest_first walk.values)) c.loop-at.visitor c.clear_one.new.visitor i.5.4 t.3 in
    let n = length_push walks walk in
    let e = i.5.1 in
    let sum = count_more walks walk in
    let size = t.1 in
    let before = i.5.2 in
    let bound = i.3.0 in
    let few = c.in_ok-more.ensures.count in
    let d = pick known at l in
    let fits = few.1 d in
    let links = c.count_known-at-end.ensures in
    let homes : map home_of c.loop-at.known.items ≡ map home_of known = search rules in
    let same : places_in (slice_index_or c.loop-at.known.items at d) ≡ places_in (slice_index_or known at d) =
    ap (λ (h : Home). h.places) (home_get c.loop-at.known.items at d ∙ (ap (λ (hs : List Home). slice_index_or hs at (home_of d)) homes ∙ sym (home_get known at d))) in
    let places = places_more known at d l in
    let next : at + 1 ≡ suc at = omega arith in
    let total : sum_of places_in (take (at + 1) known) ≡ sum_of places_in (take (suc at) known) = ap (λ (k : ℕ). sum_of places_in (take k known)) next in
    let held = i.3.1 in (
      search rules,
      search rules,
      search rules,
      (omega arith, omega arith),
      search rules,
      (walks ++ walk ∷ [], omega arith, omega arith, taken, subst (λ xs. FoldsTo g.V.Visitor.saw c.args.visitor.now xs c.clear_one.new.visitor) (sym chunks) folds),
    )

pub loop-at-init : goal.loop-at-init
loop-at-init g c = (c.requires.own, refl, refl, (omega arith, omega arith), c.requires.call, ([], refl, refl, search rules, search rules))

pub returns-clause-ok : goal.returns-clause-ok
returns-clause-ok g c =
    let i = c.loop-at.invariant in
    let n = i.5.1 in
    let all = c.count_known-at-end.ensures in
    (i.5.0, omega arith, i.5.2, i.5.3, i.5.4)

pub returns-in_err-more-clause-err : goal.returns-in_err-more-clause-err
returns-in_err-more-clause-err g c =
    let old = c.args.known.now.items in
    let here = c.loop-at.known.items in
    let new = c.clear_one.new.known.items in
    let i = c.loop-at.invariant in
    let l : c.loop-at.at < length old = search rules in
    let told : IfErr c.from_residual.result (λ e. FirstHeld here new × (c.clear_one.new.visitor ≡ c.loop-at.visitor) × (c.loop-at.at ≡ 0) × (e ≡ Busy) × (first_weight here ≢ 1024)) = search rules in
    IfErr-weaker c.from_residual.result _ _
    (λ e t.
    let none = i.5.1 ∙ t.2 in
    let same = took_none old i.5.0 here i.5.3 none in
    let folds = subst (λ (walks : List Walk). FoldsTo g.V.Visitor.saw c.args.visitor.now (valued g.T.Sample.value (all_chunks walks)) c.loop-at.visitor) (no_walk i.5.0 none) i.5.4 in
    (subst (λ (ps : List Part). FirstHeld ps new) same t.0, t.1 ∙ sym folds, t.3, omega arith, subst (λ (ps : List Part). first_weight ps ≢ 1024) same t.4))
    told
