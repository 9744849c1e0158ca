-- A take keeps the pushes and the walks in their places.
use Rattle.std.proofs.Common.{◌≡◌, ◌≢◌, ℕ, suc, ◌+◌, ◌<◌, cond, eqb, get_or, replicate, refl, sym, ap, ◌∙◌, subst, inr, ⊎_elim, arith, eq-eqb, ne_eqb}
use mathlib.Core.Logic.{dite}
use mathlib.Core.Option.{some}
use native.Mathlib.Decide.{ℕ_discrete, dec_le}
use lib.ListN.{get_elem?}
use Rattle.metrics_bucket.specs.declared.view.View.{View}
use Rattle.metrics_bucket.specs.declared.view.Hold.{Hold}
use Rattle.metrics_bucket.specs.declared.view.Hold.TheVariants.{Nothing, Ticket, Written, Claimed, SideKnown, Reading, Clearing, Settling}
use Rattle.metrics_bucket.specs.declared.view.Visit.TheVariants.{Unseen}
use Rattle.metrics_bucket.specs.BucketState.{BucketState, total, walks_of, walks_made, other, place_index, holding_at, takes, state_after}
use Rattle.metrics_bucket.specs.Facts.{below, turn_in, took_in, took_of, ticket_in, ticket_at, HoldFits, Facts}
use Rattle.metrics_bucket.specs.Places.{pushed_at, held_in, tickets_at, clearing_of, told_of, takes_in, given_of, wiped_hold, wipes_at, mark_of, IsPush, IsEpochOf, VisitFinds, HoldPlaced, ViewPlaced, Placed}
use Rattle.metrics_bucket.proofs.Sums.{total_set, total_one, same_here, below_under, below_over}
use Rattle.metrics_bucket.proofs.Keep.{other_side, turn_alone}
use Rattle.metrics_bucket.proofs.Visits.{new_visit, length_new}
use Rattle.metrics_bucket.proofs.Walks.{take_clean}
use Rattle.metrics_bucket.proofs.Placing.{cond_same, cond_here, cond_else, no_take, push_kept, view_kept, each_kept}
use Rattle.metrics_bucket.proofs.WipedVisits.{unwiped_new}

below_suc : (d n : ℕ) → below d (suc n) ≡ below d n + cond (eqb d n) 1 0
below_suc d n = dite (ℕ_discrete d n)
    (λ q. let a = below_under d (suc n) (omega arith) in let b = below_over d n (omega arith) in let c = cond_here d n 1 q in omega arith)
    (λ q. let c = cond_else d n 1 q in dite (dec_le d n)
    (λ l. let a = below_under d (suc n) (omega arith) in let b = below_under d n (omega arith) in omega arith)
    (λ l. let a = below_over d (suc n) (omega arith) in let b = below_over d n (omega arith) in omega arith))

module _ (places all : ℕ) (w : BucketState) (id : ℕ) (v : View) (f : Facts places all w) (p : Placed places w) (at : get_elem? w.views id ≡ some v) (has : 0 < v.weight) where
  abbrev mine : ViewPlaced w v
  mine = p.each id v at

  pub takes_side : (t : ℕ) → v.hold ≡ SideKnown t → Placed places (state_after places w id v takes)
  takes_side to e =
      let u : View = holding_at v w.epoch (Clearing w.live (replicate w.given Unseen)) in
      let w' : BucketState = state_after places w id v takes in
      let walks : walks_made w' ≡ walks_made w = (let t = total_set walks_of w.views id v u at in omega arith) in
      let o = other_side w.live f.side in
      let clean = take_clean places all w id v f at has to e in
      let l = length_new w.given in
      let alone_here = turn_alone places all w f id v at (ap turn_in e) in
      let pushes : (k i x : ℕ) → IsPush w k i x → IsPush w' k i x = push_kept w w' id v u at refl refl in
      let told_next : (k : ℕ) → total (told_of k) w'.views ≡ total (told_of k) w.views + cond (eqb k w.epoch) w.given 0 = λ k.
      let t = total_set (told_of k) w.views id v u at in
      let c : clearing_of k v.epoch v.hold ≡ 0 = ap (clearing_of k v.epoch) e in
      let d : clearing_of k w.epoch (Clearing w.live (replicate w.given Unseen)) ≡ cond (eqb k w.epoch) w.given 0 = ap (λ (n : ℕ). cond (eqb k w.epoch) n 0) l in
      omega arith
      in
      let other_tickets : (j : ℕ) (z : View) (s i : ℕ) → get_elem? w.views j ≡ some z → ticket_in s i z.hold ≡ 1 → i < places → IsEpochOf w s z.epoch → IsEpochOf w' s z.epoch = λ j z s i there one below_all. ⊎_elim
      (λ (t : (s ≡ w.live) × (z.epoch ≡ w.epoch)). inr (t.0 ∙ sym o.2, ap suc t.1))
      (λ (t : (s ≡ other w.live) × (suc z.epoch ≡ w.epoch)).
      let c = (clean i below_all).1 in let a = total_one (ticket_at (other w.live) i) w.views j z there in let b : ticket_in s i z.hold ≡ ticket_in (other w.live) i z.hold = (λ q. ticket_in (t.0 q) i z.hold) in absurd (omega arith))
      in
      let other_hold : (j : ℕ) (z : View) → j ≢ id → get_elem? w.views j ≡ some z → (hold : Hold) → z.hold ≡ hold → HoldFits places all w z.weight hold → HoldPlaced w z.epoch hold → HoldPlaced w' z.epoch hold =
      other_placed w' pushes other_tickets alone_here
      in
      record {
        tickets = λ d i.
            let y = p.tickets d i in
            let t = total_set (tickets_at d i) w.views id v u at in
            let h : held_in d i v.epoch v.hold ≡ 0 = ap (held_in d i v.epoch) e in
            let g : given_of d w' ≡ given_of d w = (let a = told_next d in let b = cond_same d (suc w.epoch) 0 in omega arith) in
            let b : below i (given_of d w') ≡ below i (given_of d w) = ap (below i) g in
            omega arith;
        told = λ d low. let a = told_next d in let b = p.told d (omega arith) in let c = cond_else d w.epoch w.given (λ q. absurd (omega arith)) in omega arith;
        room = λ d.
            let a = told_next d in
            let b = p.room d in
            let room = f.room in
            dite (ℕ_discrete d w.epoch) (λ q. let c = cond_here d w.epoch w.given q in let z = p.told d (omega arith) in omega arith) (λ q. let c = cond_else d w.epoch w.given q in omega arith);
        once = λ d.
            let y = p.once d in
            let t = total_set (takes_in d) w.views id v u at in
            let n = no_take d v.epoch (took_in v.hold) (ap took_in e) in
            let b : below d (suc w.epoch) ≡ below d w.epoch + cond (eqb d w.epoch) 1 0 = below_suc d w.epoch in
            omega arith;
        one_place = λ d i below_all.
            let y = p.one_place d i below_all in
            let t = total_set (pushed_at d i) w.views id v u at in
            let c = total_set (wipes_at d i) w.views id v u at in
            let z : wiped_hold d i v.epoch v.hold ≡ 0 = ap (wiped_hold d i v.epoch) e in
            let z' : wiped_hold d i w.epoch (Clearing w.live (replicate w.given Unseen)) ≡ 0 = ap (λ (n : ℕ). cond (eqb d w.epoch) n 0) (unwiped_new w.given i) ∙ cond_same d w.epoch 0 in
            let none = (clean i below_all).0 in
            let m : mark_of places w' d i ≡ mark_of places w d i = marks_next d i none o.2 in
            omega arith;
        marked = λ s i a b m. let t = p.marked s i a b m in (
          t.0,
          ⊎_elim (λ (q : (s ≡ w.live) × (t.0 ≡ w.epoch)). inr (q.0 ∙ sym o.2, ap suc q.1))
              (λ (q : (s ≡ other w.live) × (suc t.0 ≡ w.epoch)). let none = (clean i b).0 in let c : get_or w.marks (place_index places s i) 0 ≡ get_or w.marks (place_index places (other w.live) i) 0 = (λ z. get_or w.marks (place_index places (q.0 z) i) 0) in absurd (omega arith)) t.1,
          pushes t.0 i (get_or w.values (place_index places s i) 0) t.2,
        );
        each = each_kept w w' pushes places id u p refl
            record {
              hold = (refl, λ i c there. subst (VisitFinds w' w.epoch i) (new_visit w.given i c there) tt);
              turn = λ _. mine.turn (ap turn_in e) ∙ sym walks;
              taken = (view_kept w w' pushes v (λ q. subst (HoldPlaced w' v.epoch) (sym e) tt) (λ _. walks) mine).taken;
              read = (view_kept w w' pushes v (λ q. subst (HoldPlaced w' v.epoch) (sym e) tt) (λ _. walks) mine).read;
            }
            (λ j z n there. (other_hold j z n there z.hold refl (f.each j z there).hold, λ _. walks));
        takes = let y = p.takes in let t = total_set took_of w.views id v u at in let t0 : took_in v.hold ≡ 0 = ap took_in e in omega arith;
      }
    where
      other_placed : (w' : BucketState) → ((k i x : ℕ) → IsPush w k i x → IsPush w' k i x)
          → ((j : ℕ) (z : View) (s i : ℕ) → get_elem? w.views j ≡ some z → ticket_in s i z.hold ≡ 1 → i < places → IsEpochOf w s z.epoch → IsEpochOf w' s z.epoch)
          → ((j : ℕ) (z : View) → j ≢ id → get_elem? w.views j ≡ some z → turn_in z.hold ≡ 0)
          → (j : ℕ) (z : View) → j ≢ id → get_elem? w.views j ≡ some z → (hold : Hold) → z.hold ≡ hold → HoldFits places all w z.weight hold → HoldPlaced w z.epoch hold → HoldPlaced w' z.epoch hold
      other_placed w' pushes ticketed free j z n there Nothing h fits k = tt
      other_placed w' pushes ticketed free j z n there (Ticket s i) h fits k = ticketed j z s i there (ap (ticket_in s i) h ∙ same_here s i s i refl refl) fits.1 k
      other_placed w' pushes ticketed free j z n there (Written s i x) h fits k = ticketed j z s i there (ap (ticket_in s i) h ∙ same_here s i s i refl refl) fits.1 k
      other_placed w' pushes ticketed free j z n there Claimed h fits k = tt
      other_placed w' pushes ticketed free j z n there (SideKnown s) h fits k = tt
      other_placed w' pushes ticketed free j z n there (Reading s visits) h fits k = let a = free j z n there in let b : turn_in z.hold ≡ 1 = ap turn_in h in absurd (omega arith)
      other_placed w' pushes ticketed free j z n there (Clearing s visits) h fits k = let a = free j z n there in let b : turn_in z.hold ≡ 1 = ap turn_in h in absurd (omega arith)
      other_placed w' pushes ticketed free j z n there (Settling s xs) h fits k = tt

      -- the live side's marks are those of the epoch that ended, and the other side has none
      marks_next : (d i : ℕ) → get_or w.marks (place_index places (other w.live) i) 0 ≡ 0 → other (other w.live) ≡ w.live
          → cond (eqb d (suc w.epoch)) (get_or w.marks (place_index places (other w.live) i) 0) (cond (eqb (suc d) (suc w.epoch)) (get_or w.marks (place_index places (other (other w.live)) i) 0) 0) ≡ mark_of places w d i
      marks_next d i none back = dite (ℕ_discrete d w.epoch)
          (λ a. ap (λ c. cond c (get_or w.marks (place_index places (other w.live) i) 0) (cond (eqb (suc d) (suc w.epoch)) (get_or w.marks (place_index places (other (other w.live)) i) 0) 0)) (ne_eqb d (suc w.epoch) (λ q. omega arith))
          ∙ (ap (λ c. cond c (get_or w.marks (place_index places (other (other w.live)) i) 0) 0) (eq-eqb (suc d) (suc w.epoch) (ap suc a))
          ∙ ((λ k. get_or w.marks (place_index places (back k) i) 0) ∙ sym (ap (λ c. cond c (get_or w.marks (place_index places w.live i) 0) (cond (eqb (suc d) w.epoch) (get_or w.marks (place_index places (other w.live) i) 0) 0)) (eq-eqb d w.epoch a)))))
          (λ a. zero_next d a ∙ sym (zero_now d a))
        where
          zero_next : (d : ℕ) → d ≢ w.epoch → cond (eqb d (suc w.epoch)) (get_or w.marks (place_index places (other w.live) i) 0) (cond (eqb (suc d) (suc w.epoch)) (get_or w.marks (place_index places (other (other w.live)) i) 0) 0) ≡ 0
          zero_next d a = ap (λ c. cond (eqb d (suc w.epoch)) (get_or w.marks (place_index places (other w.live) i) 0) (cond c (get_or w.marks (place_index places (other (other w.live)) i) 0) 0)) (ne_eqb (suc d) (suc w.epoch) (λ q. a (omega arith)))
              ∙ (ap (λ (n : ℕ). cond (eqb d (suc w.epoch)) n 0) none ∙ cond_same d (suc w.epoch) 0)

          zero_now : (d : ℕ) → d ≢ w.epoch → mark_of places w d i ≡ 0
          zero_now d a = ap (λ c. cond c (get_or w.marks (place_index places w.live i) 0) (cond (eqb (suc d) w.epoch) (get_or w.marks (place_index places (other w.live) i) 0) 0)) (ne_eqb d w.epoch a)
              ∙ (ap (λ (n : ℕ). cond (eqb (suc d) w.epoch) n 0) none ∙ cond_same (suc d) w.epoch 0)
