-- The steps of a walk keep the pushes and the walks in their places.
use Rattle.std.proofs.Common.{◌≡◌, ℕ, suc, ◌+◌, ◌<◌, cond, eqb, List, [], ◌∷◌, length, get_or, set, refl, sym, ap, ◌∙◌, subst, inr, ⊎_elim, arith, length-append, length-set, get_or-set_same, get_or-set_other}
use mathlib.Core.Logic.{dite}
use mathlib.Core.Option.{some}
use native.Mathlib.Decide.{ℕ_discrete}
use lib.ListN.{get_elem?}
use Rattle.atomic_table.proofs.Lists.{at_snoc}
use Rattle.metrics_bucket.specs.declared.view.Walk.{Walk}
use Rattle.metrics_bucket.specs.declared.view.View.{View}
use Rattle.metrics_bucket.specs.declared.view.Hold.TheVariants.{Reading, Clearing}
use Rattle.metrics_bucket.specs.declared.view.Visit.{Visit}
use Rattle.metrics_bucket.specs.declared.view.Visit.TheVariants.{Read, Wiped}
use Rattle.metrics_bucket.specs.BucketState.{BucketState, walks_of, walks_made, other, place_index, walk, holding, left_from, value_in, values_in}
use Rattle.metrics_bucket.specs.Facts.{below, HoldFits, Facts}
use Rattle.metrics_bucket.specs.Places.{lengths_of, is_wiped, wiped_place, IsPush, IsEpochOf, WalkFinds, VisitFinds, HoldPlaced, Placed}
use Rattle.metrics_bucket.proofs.Sums.{total_set, index_apart, index_below, here_or}
use Rattle.metrics_bucket.proofs.Keep.{at_below, other_side, turn_alone, held_by}
use Rattle.metrics_bucket.proofs.Placing.{lengths_of-append, walks_at-append, walks_in-append, cond_same, cond_here, cond_else, push_kept, visit_kept, visits_find, walk_kept}
use Rattle.metrics_bucket.proofs.PlacedCounts.{keeps_counts}
use Rattle.metrics_bucket.proofs.WipedVisits.{wiped_else, wiped_there, all_wiped, length_values, value_there}
use Rattle.metrics_bucket.proofs.Marks.{mark_here, mark_else}

module _ (places all : ℕ) (w : BucketState) (id : ℕ) (v : View) (f : Facts places all w) (p : Placed places w) (at : get_elem? w.views id ≡ some v) (has : 0 < v.weight) where
  pub wipes : (s i x : ℕ) (visits : List Visit) → v.hold ≡ Clearing s visits → get_elem? visits i ≡ some (Read x)
      → Placed places record w { marks = set w.marks (place_index places s i) 0; views = set w.views id (holding v (Clearing s (set visits i (Wiped x)))) }
  wipes s i x visits e there =
      let v0 : View = holding v (Clearing s visits) in
      let at0 = held_by w id v (Clearing s visits) at e in
      let u : View = holding v (Clearing s (set visits i (Wiped x))) in
      let w' : BucketState = record w { marks = set w.marks (place_index places s i) 0; views = set w.views id u } in
      let walks : walks_made w' ≡ walks_made w = (let t = total_set walks_of w.views id v u at in omega arith) in
      let mine = p.each id v0 at0 in
      let fits : HoldFits places all w v.weight (Clearing s visits) = (f.each id v0 at0).hold in
      let placed : HoldPlaced w v.epoch (Clearing s visits) = mine.hold in
      let o = other_side w.live f.side in
      let s2 : s < 2 = subst (λ (z : ℕ). z < 2) (sym fits.0) o.0 in
      let inside = at_below visits i (Read x) there in
      let most = fits.1 in
      let i2 : i < places = omega arith in
      let visit = fits.2 i (Read x) there in
      let marked : get_or w.marks (place_index places s i) 0 ≡ 1 = visit.0 in
      let of_side : IsEpochOf w s v.epoch = inr (fits.0, placed.0) in
      let in_range = index_below places s i i2 in
      let marks_long = f.marks_long in
      let here : get_or (set w.marks (place_index places s i) 0) (place_index places s i) 0 ≡ 0 = get_or-set_same w.marks (place_index places s i) 0 0 (omega arith) in
      let pushes : (k i x : ℕ) → IsPush w k i x → IsPush w' k i x = push_kept w w' id v u at refl refl in
      keeps_counts places w w' id v0 u p at0 refl refl refl refl (λ _ _. refl) (λ d. ap (λ (n : ℕ). lengths_of d v.taken + cond (eqb d v.epoch) n 0) (length-set visits i (Wiped x))) (λ _. refl) refl
      (λ d j l. ⊎_elim
      (λ (q : (d ≡ v.epoch) × (j ≡ i)).
      let m = mark_here places w w' s i 0 v.epoch of_side f.side i2 f.marks_long refl refl refl d j q.0 q.1 in
      let m0 = m.0 in
      let m1 = m.1 in
      let k = wiped_there visits i (Read x) (Wiped x) there in
      let z0 : cond (eqb d v.epoch) (wiped_place visits j) 0 ≡ 0 = ap (λ (n : ℕ). cond (eqb d v.epoch) n 0) ((λ l. wiped_place visits (q.1 l)) ∙ k.0) ∙ cond_same d v.epoch 0 in
      let z1 : cond (eqb d v.epoch) (wiped_place (set visits i (Wiped x)) j) 0 ≡ 1 = cond_here d v.epoch (wiped_place (set visits i (Wiped x)) j) q.0 ∙ ((λ l. wiped_place (set visits i (Wiped x)) (q.1 l)) ∙ k.1) in
      omega arith)
      (λ (n : d ≡ v.epoch → j ≡ i → ⊥).
      let m = mark_else places w w' s i 0 v.epoch of_side f.side i2 f.marks_long refl refl refl d j l n in
      let z1 : cond (eqb d v.epoch) (wiped_place (set visits i (Wiped x)) j) 0 ≡ cond (eqb d v.epoch) (wiped_place visits j) 0 = dite (ℕ_discrete d v.epoch)
      (λ q. ap (λ (n : ℕ). cond (eqb d v.epoch) n 0) (wiped_else visits i j (Wiped x) (λ k. n q k)))
      (λ q. cond_else d v.epoch (wiped_place (set visits i (Wiped x)) j) q ∙ sym (cond_else d v.epoch (wiped_place visits j) q))
      in
      omega arith)
      (here_or d j v.epoch i))
      (λ s' i' a b m. ⊎_elim
      (λ (q : (s' ≡ s) × (i' ≡ i)). let same_place : get_or (set w.marks (place_index places s i) 0) (place_index places s' i') 0 ≡ get_or (set w.marks (place_index places s i) 0) (place_index places s i) 0 = (λ l. get_or (set w.marks (place_index places s i) 0) (place_index places (q.0 l) (q.1 l)) 0) in absurd (omega arith))
      (λ (n : s' ≡ s → i' ≡ i → ⊥).
      let t = p.marked s' i' a b (sym (get_or-set_other w.marks (place_index places s i) (place_index places s' i') 0 0 (index_apart places s' i' s i a s2 b i2 n)) ∙ m) in
      (t.0, t.1, pushes t.0 i' (get_or w.values (place_index places s' i') 0) t.2))
      (here_or s' i' s i))
      pushes
      record {
        hold = (placed.0, visits_find w' v.epoch i visits (Wiped x) (λ j c k. visit_kept w w' pushes v.epoch j c (placed.1 j c k)) (pushes v.epoch i x (placed.1 i (Read x) there)));
        turn = λ _. mine.turn refl ∙ sym walks;
        taken = λ n walk k. walk_kept w w' pushes walk (mine.taken n walk k);
        read = λ n walk k. walk_kept w w' pushes walk (mine.read n walk k);
      }
      (λ _ _ _ _ _. walks)

  -- a clear leaves when all its places are wiped
  pub leaves_clear : (s : ℕ) (visits : List Visit) → v.hold ≡ Clearing s visits → ((i : ℕ) (c : Visit) → get_elem? visits i ≡ some c → (x : ℕ) × (c ≡ Wiped x)) → Placed places record w { turn = 0; views = set w.views id (left_from v (Clearing s visits)) }
  leaves_clear s visits e done =
      let new : Walk = walk v.epoch (values_in visits) in
      let v0 : View = holding v (Clearing s visits) in
      let at0 = held_by w id v (Clearing s visits) at e in
      let u : View = left_from v (Clearing s visits) in
      let w' : BucketState = record w { turn = 0; views = set w.views id u } in
      let mine = p.each id v0 at0 in
      let alone_here = turn_alone places all w f id v0 at0 refl in
      let placed : HoldPlaced w v.epoch (Clearing s visits) = mine.hold in
      let pushes : (k i x : ℕ) → IsPush w k i x → IsPush w' k i x = push_kept w w' id v u at refl refl in
      let long = length_values visits in
      let finds : WalkFinds w new = λ i l. let c = value_there visits i l in let t = done i c.0 c.1 in
      subst (IsPush w v.epoch i) (sym (c.2 ∙ ap value_in t.1)) (subst (VisitFinds w v.epoch i) t.1 (placed.1 i c.0 c.1))
      in
      keeps_counts places w w' id v0 u p at0 refl refl refl refl (λ _ _. refl)
      (λ k. let a = lengths_of-append k v.taken (new ∷ []) in let d : cond (eqb k v.epoch) (length (values_in visits)) 0 ≡ cond (eqb k v.epoch) (length visits) 0 = ap (λ (n : ℕ). cond (eqb k v.epoch) n 0) long in omega arith)
      (λ d. let a = walks_in-append d v.taken (new ∷ []) in let z = cond_same d v.epoch 0 in omega arith) (let l = length-append v.taken (new ∷ []) in omega arith)
      (λ d j l.
      let a = walks_at-append d j v.taken (new ∷ []) in
      let k : cond (eqb d v.epoch) (wiped_place visits j) 0 ≡ cond (eqb d v.epoch) (below j (length (values_in visits))) 0 = ap (λ (n : ℕ). cond (eqb d v.epoch) n 0) (all_wiped visits j (λ i c there. ap is_wiped (done i c there).1) ∙ ap (below j) (sym long)) in
      omega arith)
      (λ s i a b m. let t = p.marked s i a b m in (t.0, t.1, pushes t.0 i (get_or w.values (place_index places s i) 0) t.2)) pushes
      record {
        hold = tt;
        turn = λ t. absurd (omega arith);
        taken = λ n walk k. ⊎_elim (λ (t : get_elem? v.taken n ≡ some walk). walk_kept w w' pushes walk (mine.taken n walk t)) (λ (t : new ≡ walk). subst (WalkFinds w') t (walk_kept w w' pushes new finds)) (at_snoc v.taken new walk n k);
        read = λ n walk k. walk_kept w w' pushes walk (mine.read n walk k);
      }
      (λ j z n there t. let a = alone_here j z n there in absurd (omega arith))

  -- a reading walk leaves when it has read all its places
  pub leaves_read : (s : ℕ) (visits : List Visit) → v.hold ≡ Reading s visits → ((i : ℕ) (c : Visit) → get_elem? visits i ≡ some c → (x : ℕ) × (c ≡ Read x)) → Placed places record w { turn = 0; views = set w.views id (left_from v (Reading s visits)) }
  leaves_read s visits e done =
      let new : Walk = walk v.epoch (values_in visits) in
      let v0 : View = holding v (Reading s visits) in
      let at0 = held_by w id v (Reading s visits) at e in
      let u : View = left_from v (Reading s visits) in
      let w' : BucketState = record w { turn = 0; views = set w.views id u } in
      let mine = p.each id v0 at0 in
      let alone_here = turn_alone places all w f id v0 at0 refl in
      let placed : HoldPlaced w v.epoch (Reading s visits) = mine.hold in
      let pushes : (k i x : ℕ) → IsPush w k i x → IsPush w' k i x = push_kept w w' id v u at refl refl in
      let finds : WalkFinds w new = λ i l. let c = value_there visits i l in let t = done i c.0 c.1 in
      subst (IsPush w v.epoch i) (sym (c.2 ∙ ap value_in t.1)) (subst (VisitFinds w v.epoch i) t.1 (placed.1 i c.0 c.1))
      in
      keeps_counts places w w' id v0 u p at0 refl refl refl refl (λ _ _. refl) (λ _. refl) (λ _. refl) refl (λ _ _ _. refl)
      (λ s i a b m. let t = p.marked s i a b m in (t.0, t.1, pushes t.0 i (get_or w.values (place_index places s i) 0) t.2)) pushes
      record {
        hold = tt;
        turn = λ t. absurd (omega arith);
        taken = λ n walk k. walk_kept w w' pushes walk (mine.taken n walk k);
        read = λ n walk k. ⊎_elim (λ (t : get_elem? v.read n ≡ some walk). walk_kept w w' pushes walk (mine.read n walk t)) (λ (t : new ≡ walk). subst (WalkFinds w') t (walk_kept w w' pushes new finds)) (at_snoc v.read new walk n k);
      }
      (λ j z n there t. let a = alone_here j z n there in absurd (omega arith))

  -- what a walk reads at a place with mark 1 is the place's push
  pub reads_push : (s i : ℕ) → s < 2 → i < places → IsEpochOf w s v.epoch → get_or w.marks (place_index places s i) 0 ≡ 1 → IsPush w v.epoch i (get_or w.values (place_index places s i) 0)
  reads_push s i a b of_side one =
      let t = p.marked s i a b one in
      let o = other_side w.live f.side in
      let same_epoch : t.0 ≡ v.epoch = ⊎_elim
      (λ (q : (s ≡ w.live) × (t.0 ≡ w.epoch)). ⊎_elim (λ (r : (s ≡ w.live) × (v.epoch ≡ w.epoch)). q.1 ∙ sym r.1) (λ (r : (s ≡ other w.live) × (suc v.epoch ≡ w.epoch)). absurd (o.1 (sym q.0 ∙ r.0))) of_side)
      (λ (q : (s ≡ other w.live) × (suc t.0 ≡ w.epoch)). ⊎_elim (λ (r : (s ≡ w.live) × (v.epoch ≡ w.epoch)). absurd (o.1 (sym r.0 ∙ q.0))) (λ (r : (s ≡ other w.live) × (suc v.epoch ≡ w.epoch)). let x = q.1 in let y = r.1 in omega arith) of_side)
      t.1
      in
      subst (λ (n : ℕ). IsPush w n i (get_or w.values (place_index places s i) 0)) same_epoch t.2
