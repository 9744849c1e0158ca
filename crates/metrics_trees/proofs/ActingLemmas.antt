-- A call that goes from leaf to leaf, and acts on the targets there.
use Rattle.std.proofs.Common.{◌≡◌, ℕ, zero, suc, ◌+◌, ◌<◌, ◌≤◌, ◌^◌, List, [], ◌∷◌, ◌++◌, length, take, drop, map, Result, Ok, Err, refl, ap, sym, ◌∙◌, subst, arith, length-append, inl, inr}
use Rattle.std.specs.List.{FoldsTo}
use Rattle.std.specs.Result.{result_map_both}
use Rattle.std.proofs.Math.Seq.{take-append-add, take-length}
use Rattle.std.proofs.lemmas.List.{take-append-le, take_all}
use mathlib.Core.Path.{fun_ext}
use Rattle.metrics_names.specs.declared.kind.MetricKind.{MetricKind}
use Rattle.metrics_names.specs.declared.refused.Refused.{Refused}
use Rattle.metrics_names.specs.declared.refused.Refused.TheVariants.{Memory, NoSuchAddress, NoSuchBook, BadHandle}
use Rattle.metrics_names.specs.Names.{KeyParts}
use Rattle.metrics_names.specs.Refusals.{after_front, CanFollow, IfMemory}
use Rattle.metrics.specs.Targets.{raise, after_targets, AllBelow}
use Rattle.metrics.specs.TargetsLaws.{after_targets-append, below_take, few, length-after_targets, length-raise, take-raise}
use Rattle.metrics.specs.Book.{Content}
use Rattle.metrics.specs.Meaning.{Meaning, KeepsTargets, Acts}
use Rattle.metrics.specs.Layers.{joined_all, targets_of}
use Rattle.metrics_rules.specs.declared.visitor.Stopped.{Stopped}
use Rattle.metrics_rules.specs.Visits.{key_at, shown, StopsAt, Visits}
use Rattle.metrics_trees.specs.Calls.{Calls, Stay}
use Rattle.metrics_trees.specs.Recorders.{books_of, books_in, most_books, spread}
use Rattle.metrics_trees.specs.Over.{over}
use Rattle.metrics_trees.specs.Visiting.{Acting, IsAdded, Acted, Accepts, Rejects, IsEnd}
use Rattle.metrics_rules.proofs.OneChildLemmas.{front, rest, before, by_parts, targets-one}
use Rattle.metrics_trees.proofs.JoinedLemmas.{acts_within}
use Rattle.metrics_trees.proofs.OneChildLemmas.{stay-called}

-- the same for what is made of the result
pub ends-mapped : {T U : Type 0} (h : T → U) (q : Result ℕ Stopped) (t : T) (acted : ℕ) (r : Result T Refused) → IsEnd q t acted r → IsEnd q (h t) acted (result_map_both h (λ e. e) r)
ends-mapped h (Ok n) t acted (Ok u) e = ap h e
ends-mapped h (Ok n) t acted (Err x) e = e
ends-mapped h (Err s) t acted (Ok u) e = e
ends-mapped h (Err s) t acted (Err x) e = e

abbrev pub contents_in : {B : Type 0} → (B → Meaning) → List B → List Content
contents_in m bs = (joined_all (map m bs)).contents

-- recorders acted on these targets in their books
pub record Did {B : Type 0} (m : B → Meaning) (f : List ℕ → Content → Content) (us : List (ℕ × List ℕ)) (was now : List B) : Type 0 where
  pub contents : contents_in m now ≡ after_targets f us (contents_in m was)
  pub stay : Stay m was now

module _ {B : Type 0} (m : B → Meaning) (labels : List (List ℕ × List ℕ)) (kind : MetricKind) (step : List (List ℕ × List ℕ) → List ℕ → Content → Content) where
  abbrev f : List ℕ → Content → Content
  f = step labels

  did-none : (bs : List B) → Did m f [] bs bs
  did-none bs = record { contents = refl; stay = record { count = refl; books = refl; same = λ q ts. refl } }

  did-more : (us vs : List (ℕ × List ℕ)) (was mid now : List B) → Did m f us was mid → Did m f vs mid now → Did m f (us ++ vs) was now
  did-more us vs was mid now h g = record {
    contents = g.contents ∙ ap (after_targets f vs) h.contents ∙ sym (after_targets-append f us vs (contents_in m was));
    stay = record { count = g.stay.count ∙ h.stay.count; books = g.stay.books ∙ h.stay.books; same = λ q ts. g.stay.same q ts ∙ h.stay.same q ts };
  }

  -- ---- one target

  module _ (t : ℕ × List ℕ) (was now : List B) where
    abbrev there : List (ℕ × List ℕ)
    there = targets_of t.0 (map m was) kind t.1

    -- its recorder acted on the first of its targets there
    did-first : {R : Meaning → Meaning → Type 0} (c : Calls m t.0 was now R) (n : ℕ) → n ≤ length ((m c.before).targets kind t.1) →
        (m c.after).contents ≡ after_targets f (take n ((m c.before).targets kind t.1)) (m c.before).contents → (n ≤ length there) × Did m f (take n there) was now
    did-first c n le h =
        let x = c.before in
        let ts = (m x).targets kind t.1 in
        let at = targets-one m was t.0 x c.within c.at kind t.1 in (
          omega (arith, le, ap length at ∙ length-raise _ ts),
          record {
            contents =
                ap (contents_in m) c.is ∙ by_parts m was t.0 x c.within c.at c.after (λ old new. (joined_all new).contents ≡ after_targets f (raise (before m was t.0 x c.within c.at) (take n ts)) (joined_all old).contents)
                (acts_within f (front m was t.0 x c.within c.at) (rest m was t.0 x c.within c.at) (m x) (m c.after) (take n ts) (below_take (books_of (m x)) n ts ((m x).below kind t.1)) h)
                ∙ ap (λ us. after_targets f us (contents_in m was)) (sym (ap (take n) at ∙ take-raise _ n ts));
            stay = stay-called m t.0 c (ap length h ∙ length-after_targets f (take n ts) (m x).contents);
          },
        )

  -- ---- some targets, in one recorder after another

  -- a call acted on all of these targets; or an error says how many it acted on in the recorder that failed, and with those on
  -- the first so many of them all
  abbrev Ended : List (ℕ × List ℕ) → Acting B → Acting B → Result (Unit {0}) Refused → Type 0
  Ended us v w (Ok done) = Did m f us v.recorders w.recorders × (v.acted + length us < 2 ^ 64 → w.acted ≡ v.acted + length us)
  Ended us v w (Err e) =
      (n : ℕ) × (last : ℕ) × (e ≡ Memory last) × (n ≤ length us) × Did m f (take n us) v.recorders w.recorders
      × (v.acted + length us < 2 ^ 64 → w.acted + last ≡ v.acted + n)

  idle : (us : List (ℕ × List ℕ)) (v w : Acting B) (e : Refused) → w ≡ v → e ≡ Memory 0 → Ended us v w (Err e)
  idle us v w e same is =
      (0, 0, is, omega arith, subst (λ (s : Acting B). Did m f [] v.recorders s.recorders) (sym same) (did-none v.recorders), λ lt. ap (λ (s : Acting B). s.acted + 0) same)

  ended-more : (us vs : List (ℕ × List ℕ)) (v x w : Acting B) (r : Result (Unit {0}) Refused) → Ended us v x (Ok tt) → Ended vs x w r → Ended (us ++ vs) v w r
  ended-more us vs v x w (Ok done) h g = (
    did-more us vs v.recorders x.recorders w.recorders h.0 g.0,
    λ lt. (
        let l = length-append us vs in
        let a = h.1 (omega (arith, lt, l)) in
        let b = g.1 (omega (arith, lt, l, a)) in
        omega (arith, a, b, l)),
  )
  ended-more us vs v x w (Err e) h (n, last, is, le, did, at) =
      let l = length-append us vs in (
        length us + n,
        last,
        is,
        omega (arith, le, l),
        subst (λ ts. Did m f ts v.recorders w.recorders) (sym (take-append-add us vs n)) (did-more us (take n vs) v.recorders x.recorders w.recorders h.0 did),
        λ lt. (let a = h.1 (omega (arith, lt, l)) in let c = at (omega (arith, lt, l, a)) in omega (arith, a, c)),
      )

  -- the recorder of a target
  one : (t : ℕ × List ℕ) (v w : Acting B) (q : Result ℕ Refused) (r : Result (Unit {0}) Refused) →
      Calls m t.0 v.recorders w.recorders (λ a c. Acts f (a.targets kind t.1) a c q (λ count. count ≡ length (a.targets kind t.1))) → IsAdded v.acted w.acted q r →
      Ended (targets_of t.0 (map m v.recorders) kind t.1) v w r
  one t v w (Ok count) (Ok done) c a =
      let us = targets_of t.0 (map m v.recorders) kind t.1 in
      let ts = (m c.before).targets kind t.1 in
      let at = ap length (targets-one m v.recorders t.0 c.before c.within c.at kind t.1) ∙ length-raise _ ts in
      let d = did-first t v.recorders w.recorders c (length ts) (omega arith) (c.called.1 ∙ ap (λ us. after_targets f us (m c.before).contents) (sym (take-length ts))) in
      let all : count ≡ length us = c.called.0 ∙ sym at in
      (subst (λ us. Did m f us v.recorders w.recorders) (ap (λ i. take i us) (sym at) ∙ take-length us) d.1, λ lt. a (omega (arith, lt, all)) ∙ ap (λ i. v.acted + i) all)
  one t v w (Ok count) (Err e) c a =
      let ts = (m c.before).targets kind t.1 in
      let all = take_all count ts (omega (arith, c.called.0)) in
      let d = did-first t v.recorders w.recorders c count (omega (arith, c.called.0)) (c.called.1 ∙ ap (λ us. after_targets f us (m c.before).contents) (sym all)) in
      (count, count, a.0, d.0, d.1, λ lt. ap (λ k. k + count) a.1)
  one t v w (Err (Memory i)) (Err e) c a =
      let d = did-first t v.recorders w.recorders c i c.called.0 c.called.1 in
      (i, i, a.0, d.0, d.1, λ lt. ap (λ k. k + i) a.1)
  one t v w (Err e) (Ok done) c a = absurd a
  one t v w (Err NoSuchAddress) (Err e) c a = absurd c.called
  one t v w (Err NoSuchBook) (Err e) c a = absurd c.called
  one t v w (Err BadHandle) (Err e) c a = absurd c.called

  -- ---- one target after another

  module _ {V : Type 0} (st : V → Acting B) where
    -- the call at hand is this one
    abbrev pub IsAt : V → Type 0
    IsAt v = ((st v).kind ≡ kind) × ((st v).step ≡ step)

    acted-one : (t : ℕ × List ℕ) (v w : V) (r : Result (Unit {0}) Refused) → IsAt v → Acted m t.0 (key_at labels t) (st v) (st w) r →
        Ended (targets_of t.0 (map m (st v).recorders) kind t.1) (st v) (st w) r
    acted-one t v w r k a =
        let Called : MetricKind → (List (List ℕ × List ℕ) → List ℕ → Content → Content) → Type 0 = λ q g.
        Calls m t.0 (st v).recorders (st w).recorders (λ b c. Acts (g labels) (b.targets q t.1) b c a.answer (λ n. n ≡ length (b.targets q t.1))) in
        one t (st v) (st w) a.answer r (subst (λ g. Called kind g) k.1 (subst (λ q. Called q (st v).step) k.0 a.calls)) a.added

    module _ (accepts : V → ℕ → KeyParts → V → Type 0) (refuses : V → ℕ → KeyParts → Refused → V → Type 0)
        (gains : (v : V) (leaf : ℕ) (key : KeyParts) (w : V) → accepts v leaf key w → Accepts m leaf key (st v) (st w))
        (loses : (v : V) (leaf : ℕ) (key : KeyParts) (e : Refused) (w : V) → refuses v leaf key e w → Rejects m leaf key e (st v) (st w)) where
      pub went-one : (v : V) (t : ℕ × List ℕ) (w : V) → IsAt v → accepts v t.0 (key_at labels t) w → IsAt w × Ended (targets_of t.0 (map m (st v).recorders) kind t.1) (st v) (st w) (Ok tt)
      went-one v t w k h = let g = gains v t.0 (key_at labels t) w h in ((g.0 ∙ k.0, g.1 ∙ k.1), acted-one t v w (Ok tt) k g.2)

      -- the targets of leaves, by a call that ended so
      abbrev At : V → List (ℕ × List ℕ) → V → Result (Unit {0}) Refused → Type 0
      At v ts w r = Ended (spread (map m (st v).recorders) kind ts) (st v) (st w) r

      went-on : (v : V) (t : ℕ × List ℕ) (x : V) (ts : List (ℕ × List ℕ)) (w : V) (r : Result (Unit {0}) Refused) → IsAt v → accepts v t.0 (key_at labels t) x →
          (IsAt x → length (st x).recorders ≡ length (st v).recorders → At x ts w r) → At v (t ∷ ts) w r
      went-on v t x ts w r k h rest =
          let s = went-one v t x k h in
          ended-more (targets_of t.0 (map m (st v).recorders) kind t.1) (spread (map m (st v).recorders) kind ts) (st v) (st x) (st w) r s.1
          (subst (λ us. Ended us (st x) (st w) r) (s.1.0.stay.same kind ts) (rest s.0 s.1.0.stay.count))

      went-all : (v : V) (ts : List (ℕ × List ℕ)) (w : V) → IsAt v → FoldsTo (shown accepts labels) v ts w → At v ts w (Ok tt)
      went-all v [] w k p = subst (λ (u : V). Ended [] (st v) (st u) (Ok tt)) p (did-none (st v).recorders, λ lt. omega arith)
      went-all v (t ∷ ts) w k p = went-on v t p.0 ts w (Ok tt) k p.1 (λ q n. went-all p.0 ts w q p.2)

      stopped : (v : V) (ts : List (ℕ × List ℕ)) (w : V) (e : Refused) → IsAt v → AllBelow (length (st v).recorders) ts → StopsAt refuses labels ts v e w → At v ts w (Err e)
      stopped v ts w e k b (inr s) = idle _ (st v) (st w) e (ap st s.0) s.1
      stopped v [] w e k b (inl (x, more, is, h)) = absurd (cc)
      stopped v (t ∷ ts) w e k b (inl (x, more, is, h)) =
          let same : x ≡ t = cc in
          rejected (loses v t.0 (key_at labels t) e w (subst (λ (y : ℕ × List ℕ). refuses v y.0 (key_at labels y) e w) same h))
        where
          rejected : Rejects m t.0 (key_at labels t) e (st v) (st w) → At v (t ∷ ts) w (Err e)
          rejected (inl out) = absurd (omega (arith, out.0, b.0))
          rejected (inr (inl h)) = idle _ (st v) (st w) e h.0 h.1
          rejected (inr (inr h)) =
              let (n, last, is, le, did, at) = acted-one t v w (Err e) k h in
              let Y = targets_of t.0 (map m (st v).recorders) kind t.1 in
              let Z = spread (map m (st v).recorders) kind ts in
              let l = length-append Y Z in
              (n, last, is, omega (arith, le, l), subst (λ us. Did m f us (st v).recorders (st w).recorders) (sym (take-append-le n Y Z le)) did, λ lt. at (omega (arith, lt, l)))

      went-part : (v : V) (ts : List (ℕ × List ℕ)) (j : ℕ) (u w : V) (e : Refused) → IsAt v → AllBelow (length (st v).recorders) ts →
          FoldsTo (shown accepts labels) v (take j ts) u → StopsAt refuses labels (drop j ts) u e w → At v ts w (Err e)
      went-part v ts zero u w e k b p s = stopped v ts w e k b (subst (λ (u : V). StopsAt refuses labels ts u e w) (sym p) s)
      went-part v [] (suc j) u w e k b p s = stopped v [] w e k b (subst (λ (u : V). StopsAt refuses labels [] u e w) (sym p) s)
      went-part v (t ∷ ts) (suc j) u w e k b p s =
          went-on v t p.0 ts w (Err e) k p.1 (λ q n. went-part p.0 ts j u w e q (subst (λ i. AllBelow i ts) (sym n) b.1) p.2 s)

      -- ---- the whole call

      module _ (R : Meaning) (name : List ℕ) (v w : V) (k : IsAt v) (none : (st v).acted ≡ 0) (most : books_in (map m (st v).recorders) ≤ most_books) (leaves : books_of R ≡ length (st v).recorders) where
        abbrev old : Meaning
        old = over R (map m (st v).recorders)

        abbrev new : Meaning
        new = over R (map m (st w).recorders)

        abbrev ts : List (ℕ × List ℕ)
        ts = R.targets kind name

        fits : (st v).acted + length (old.targets kind name) < 2 ^ 64
        fits =
            let l = few (length old.contents) (old.targets kind name) (old.below kind name) (old.distinct kind name) in
            omega (arith, l, most, none)

        keeps : {us : List (ℕ × List ℕ)} → Did m f us (st v).recorders (st w).recorders → KeepsTargets old new
        keeps h = fun_ext (λ q. fun_ext (λ n. h.stay.same q (R.targets q n)))

        failed : (s : Stopped) → Visits accepts refuses labels v ts w (Err s) → At v ts w (Err s.refused)
        failed s p = went-part v ts s.accepted p.last w s.refused k (subst (λ n. AllBelow n ts) leaves (R.below kind name)) p.accepted p.stops

        pub counted : (q : Result ℕ Stopped) → Visits accepts refuses labels v ts w q → length (st w).recorders ≡ length (st v).recorders
        counted (Ok n) p = (went-all v ts w k p.1).0.stay.count
        counted (Err s) p = (failed s p).4.stay.count

        -- however it ended
        pub answered : {T : Type 0} (P : T → Type 0) (done : T) → (FoldsTo (shown accepts labels) v ts w → (st w).acted ≡ length (old.targets kind name) → P done) → (q : Result ℕ Stopped) (r : Result T Refused) →
            Visits accepts refuses labels v ts w q → IsEnd q done (st w).acted r → Acts f (old.targets kind name) old new r P × KeepsTargets old new
        answered P done so (Ok n) (Ok t) p e =
            let g = went-all v ts w k p.1 in
            let a = g.1 fits in
            ((subst P (sym e) (so p.1 (omega (arith, a, none))), g.0.contents), keeps g.0)
        answered P done so (Ok n) (Err x) p e = absurd e
        answered P done so (Err s) (Ok t) p e = absurd e
        answered P done so (Err s) (Err x) p e =
            let (n, last, known, le, did, at) = failed s p in
            let a = at fits in
            let sum : (st w).acted + last ≡ n = omega (arith, a, none) in
            let follows : CanFollow (st w).acted s.refused = subst (CanFollow (st w).acted) (sym known) (omega (arith, sum, le, fits)) in
            let is : x ≡ Memory n = e follows ∙ ap (after_front (st w).acted) known ∙ ap Memory sum in
            (subst (λ z. IfMemory z (λ n. (n ≤ length (old.targets kind name)) × (new.contents ≡ after_targets f (take n (old.targets kind name)) old.contents))) (sym is) (le, did.contents), keeps did)
