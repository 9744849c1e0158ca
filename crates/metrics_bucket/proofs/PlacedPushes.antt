-- The steps of a push keep the pushes and the walks in their places.
use Rattle.std.proofs.Common.{◌≡◌, ℕ, ◌+◌, ◌<◌, cond, eqb, [], ◌∷◌, get_or, refl, sym, ap, ◌∙◌, subst, inl, ⊎_elim, arith, get_or-set_other}
use mathlib.Core.Option.{some}
use lib.ListN.{get_elem?}
use Rattle.metrics_bucket.specs.declared.view.View.{View}
use Rattle.metrics_bucket.specs.declared.view.Hold.TheVariants.{Nothing, Ticket, Written}
use Rattle.metrics_bucket.specs.BucketState.{BucketState, total, walks_of, walks_made, place_index, push, holding, holding_at, pushing, ticket, write, finish, state_after}
use Rattle.metrics_bucket.specs.Facts.{below, took_in, took_of, HoldFits, Facts}
use Rattle.metrics_bucket.specs.Places.{pushed_at, value_at, held_in, tickets_at, clearing_of, told_of, takes_in, given_of, wiped_hold, wipes_at, IsPush, IsEpochOf, ViewPlaced, Placed}
use Rattle.metrics_bucket.proofs.Sums.{total_set, total_one, index_apart, here_or, same_here, same_else}
use Rattle.metrics_bucket.proofs.Keep.{alone, held_by}
use Rattle.metrics_bucket.proofs.Placing.{total_add, pushes_at-append, values_at-append, value_here, value_else, cond_same, no_take, no_values, given_more, push_kept, hold_kept, view_kept, each_kept, at_most_one}
use Rattle.metrics_bucket.proofs.PlacedCounts.{keeps_counts}
use Rattle.metrics_bucket.proofs.Marks.{mark_here, mark_else}

module _ (places all : ℕ) (w : BucketState) (id : ℕ) (v : View) (f : Facts places all w) (p : Placed places w) (at : get_elem? w.views id ≡ some v) (has : 0 < v.weight) where
  abbrev mine : ViewPlaced w v
  mine = p.each id v at

  pub tickets : v.hold ≡ Nothing → w.given < places → Placed places (state_after places w id v ticket)
  tickets e room =
      let u : View = holding_at v w.epoch (Ticket w.live w.given) in
      let w' : BucketState = state_after places w id v ticket in
      let walks : walks_made w' ≡ walks_made w = (let t = total_set walks_of w.views id v u at in omega arith) in
      let pushes : (k i x : ℕ) → IsPush w k i x → IsPush w' k i x = push_kept w w' id v u at refl refl in
      let told_same : (k : ℕ) → total (told_of k) w'.views ≡ total (told_of k) w.views = λ k. let t = total_set (told_of k) w.views id v u at in let c : clearing_of k v.epoch v.hold ≡ 0 = ap (clearing_of k v.epoch) e in omega arith in
      record {
        tickets = λ k i.
            let y = p.tickets k i in
            let t = total_set (tickets_at k i) w.views id v u at in
            let h : held_in k i v.epoch v.hold ≡ 0 = ap (held_in k i v.epoch) e in
            let b : below i (given_of k w') ≡ below i (total (told_of k) w.views + cond (eqb k w.epoch) (w.given + 1) 0) = ap (λ (n : ℕ). below i (n + cond (eqb k w.epoch) (w.given + 1) 0)) (told_same k) in
            let g = given_more k i w.epoch w.given (total (told_of k) w.views) (λ q. p.told k (omega arith)) in
            omega arith;
        told = λ k l. told_same k ∙ p.told k l;
        room = λ k. let a = told_same k in let b = p.room k in omega arith;
        once = λ k. let y = p.once k in let t = total_set (takes_in k) w.views id v u at in let z = cond_same k w.epoch 0 in let n = no_take k v.epoch (took_in v.hold) (ap took_in e) in omega arith;
        one_place = λ k i l.
            let y = p.one_place k i l in
            let t = total_set (pushed_at k i) w.views id v u at in
            let c = total_set (wipes_at k i) w.views id v u at in
            let d : wiped_hold k i v.epoch v.hold ≡ 0 = ap (wiped_hold k i v.epoch) e in
            omega arith;
        marked = λ s i a b m. let t = p.marked s i a b m in (t.0, t.1, pushes t.0 i (get_or w.values (place_index places s i) 0) t.2);
        each = each_kept w w' pushes places id u p refl
            record { hold = inl (refl, refl); turn = λ t. absurd (omega arith); taken = (view_kept w w' pushes v (λ k. hold_kept w w' pushes refl refl v.epoch v.hold k) (λ _. walks) mine).taken; read = (view_kept w w' pushes v (λ k. hold_kept w w' pushes refl refl v.epoch v.hold k) (λ _. walks) mine).read }
            (λ j z n there. (hold_kept w w' pushes refl refl z.epoch z.hold, λ _. walks));
        takes = let y = p.takes in let t = total_set took_of w.views id v u at in let t0 : took_in v.hold ≡ 0 = ap took_in e in omega arith;
      }

  module _ (s i : ℕ) where
    abbrev k : ℕ
    k = place_index places s i

    pub writes : (x : ℕ) → v.hold ≡ Ticket s i → Placed places (state_after places w id v (write s i x))
    writes x e =
        let v0 : View = holding v (Ticket s i) in
        let at0 = held_by w id v (Ticket s i) at e in
        let u : View = holding v (Written s i x) in
        let w' : BucketState = state_after places w id v (write s i x) in
        let walks : walks_made w' ≡ walks_made w = (let t = total_set walks_of w.views id v u at in omega arith) in
        let fits : HoldFits places all w v.weight (Ticket s i) = (f.each id v0 at0).hold in
        let single = alone places all w f id v0 s i at0 fits.0 fits.1 (same_here s i s i refl refl) in
        let of_side : IsEpochOf w s v.epoch = (p.each id v0 at0).hold in
        let pushes : (k i x : ℕ) → IsPush w k i x → IsPush w' k i x = push_kept w w' id v u at refl refl in
        keeps_counts places w w' id v0 u p at0 refl refl refl refl (λ _ _. refl) (λ _. refl) (λ _. refl) refl (λ _ _ _. refl)
        (λ s' i' a b m. ⊎_elim
        (λ (q : (s' ≡ s) × (i' ≡ i)). let none = single.0 in let here : get_or w.marks (place_index places s' i') 0 ≡ get_or w.marks k 0 = (λ l. get_or w.marks (place_index places (q.0 l) (q.1 l)) 0) in absurd (omega arith))
        (λ (n : s' ≡ s → i' ≡ i → ⊥).
        let t = p.marked s' i' a b m in
        (t.0, t.1, subst (IsPush w' t.0 i') (sym (get_or-set_other w.values k (place_index places s' i') x 0 (index_apart places s' i' s i a fits.0 b fits.1 n))) (pushes t.0 i' (get_or w.values (place_index places s' i') 0) t.2)))
        (here_or s' i' s i))
        pushes (view_kept w w' pushes u (λ _. of_side) (λ _. walks) record { hold = of_side; turn = λ t. absurd (omega arith); taken = mine.taken; read = mine.read }) (λ _ _ _ _ _. walks)

    pub finishes : (x : ℕ) → v.hold ≡ Written s i x → Placed places (state_after places w id v (finish s i x))
    finishes x e =
        let v0 : View = holding v (Written s i x) in
        let at0 = held_by w id v (Written s i x) at e in
        let u : View = pushing v i x in
        let w' : BucketState = state_after places w id v (finish s i x) in
        let walks : walks_made w' ≡ walks_made w = (let t = total_set walks_of w.views id v u at in omega arith) in
        let fits : HoldFits places all w v.weight (Written s i x) = (f.each id v0 at0).hold in
        let single = alone places all w f id v0 s i at0 fits.0 fits.1 (same_here s i s i refl refl) in
        let none_yet = single.0 in
        let of_side : IsEpochOf w s v.epoch = (p.each id v0 at0).hold in
        let no_push : total (pushed_at v.epoch i) w.views ≡ 0 =
        (let one = same_here v.epoch i v.epoch i refl refl in
        let most = at_most_one places w p v.epoch i in
        let parts = total_add (pushed_at v.epoch i) (λ z. held_in v.epoch i z.epoch z.hold) w.views in
        let own = total_one (λ (z : View). held_in v.epoch i z.epoch z.hold) w.views id v0 at0 in
        omega arith)
        in
        let pushes : (d j y : ℕ) → IsPush w d j y → IsPush w' d j y = λ d j y c.
        let t = total_set (pushed_at d j) w.views id v u at in
        let r = total_set (value_at d j) w.views id v u at in
        let a = pushes_at-append d j v.pushed (push v.epoch i x ∷ []) in
        let b = values_at-append d j v.pushed (push v.epoch i x ∷ []) in
        let c0 = c.0 in
        let c1 = c.1 in
        let apart : d ≡ v.epoch → j ≡ i → ⊥ = λ q z. let here : total (pushed_at d j) w.views ≡ total (pushed_at v.epoch i) w.views = (λ l. total (pushed_at (q l) (z l)) w.views) in omega arith in
        let n = same_else d j v.epoch i apart in
        let m = value_else d j v.epoch i x apart in
        (omega arith, omega arith)
        in
        let new : IsPush w' v.epoch i x =
        (let t = total_set (pushed_at v.epoch i) w.views id v u at in
        let r = total_set (value_at v.epoch i) w.views id v u at in
        let a = pushes_at-append v.epoch i v.pushed (push v.epoch i x ∷ []) in
        let b = values_at-append v.epoch i v.pushed (push v.epoch i x ∷ []) in
        let n = same_here v.epoch i v.epoch i refl refl in
        let m = value_here v.epoch i v.epoch i x refl refl in
        let none = no_values v.epoch i w.views no_push in
        (omega arith, omega arith))
        in
        let of_after : IsEpochOf w' s v.epoch = of_side in
        keeps_counts places w w' id v0 u p at0 refl refl refl refl (λ d j. let a = pushes_at-append d j v.pushed (push v.epoch i x ∷ []) in omega arith) (λ _. refl) (λ _. refl) refl
        (λ d j l. let a = pushes_at-append d j v.pushed (push v.epoch i x ∷ []) in ⊎_elim
        (λ (q : (d ≡ v.epoch) × (j ≡ i)). let h = same_here d j v.epoch i q.0 q.1 in let m = mark_here places w w' s i 1 v.epoch of_side f.side fits.1 f.marks_long refl refl refl d j q.0 q.1 in let m0 = m.0 in let m1 = m.1 in omega arith)
        (λ (n : d ≡ v.epoch → j ≡ i → ⊥). let h = same_else d j v.epoch i n in let m = mark_else places w w' s i 1 v.epoch of_side f.side fits.1 f.marks_long refl refl refl d j l n in omega arith)
        (here_or d j v.epoch i))
        (λ s' i' a b m. ⊎_elim
        (λ (q : (s' ≡ s) × (i' ≡ i)).
        let same_value : get_or w.values (place_index places s' i') 0 ≡ x = (λ l. get_or w.values (place_index places (q.0 l) (q.1 l)) 0) ∙ fits.2 in
        (v.epoch, subst (λ (n : ℕ). IsEpochOf w' n v.epoch) (sym q.0) of_after, subst (λ (n : ℕ × ℕ). IsPush w' v.epoch n.0 n.1) (λ l. (sym q.1 l, sym same_value l)) new))
        (λ (n : s' ≡ s → i' ≡ i → ⊥).
        let t = p.marked s' i' a b (sym (get_or-set_other w.marks k (place_index places s' i') 1 0 (index_apart places s' i' s i a fits.0 b fits.1 n)) ∙ m) in
        (t.0, t.1, pushes t.0 i' (get_or w.values (place_index places s' i') 0) t.2))
        (here_or s' i' s i))
        pushes (view_kept w w' pushes u (λ _. tt) (λ _. walks) record { hold = tt; turn = λ t. absurd (omega arith); taken = mine.taken; read = mine.read }) (λ _ _ _ _ _. walks)
