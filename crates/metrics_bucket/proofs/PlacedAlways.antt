-- In each history the pushes and the walks are in their places.
use Rattle.std.proofs.Common.{Bool, true, false, ◌≡◌, ◌≢◌, ◌⊎◌, ℕ, zero, suc, ◌+◌, ◌*◌, ◌<◌, cond, eqb, List, [], ◌∷◌, ◌++◌, length, get_or, set, replicate, refl, sym, ap, ◌∙◌, subst, inl, inr, ⊎_elim, arith, length-append, length-set}
use mathlib.Core.Option.{some, some-ne-none}
use lib.ListN.{get_elem?}
use Rattle.atomic_table.proofs.Lists.{at_set, at_snoc, set_else}
use Rattle.atomic_table.specs.Table.{State}
use Rattle.metrics_bucket.specs.declared.view.Turn.{Turn}
use Rattle.metrics_bucket.specs.declared.view.Walk.{Walk}
use Rattle.metrics_bucket.specs.declared.view.View.{View}
use Rattle.metrics_bucket.specs.declared.view.Hold.{Hold}
use Rattle.metrics_bucket.specs.declared.view.Hold.TheVariants.{Nothing, Ticket, Written, Claimed, SideKnown, Reading, Clearing, Settling}
use Rattle.metrics_bucket.specs.declared.view.Visit.{Visit}
use Rattle.metrics_bucket.specs.declared.view.Visit.TheVariants.{Unseen, Marked, Read, Wiped}
use Rattle.metrics_bucket.specs.BucketState.{BucketState, total, walks_of, walks_made, place_index, side_of, put_visit, new_view, holds_as, holding, left_from, left_part, right_part, both_parts, live_values, Act, look, look_to_settle, ticket, write, finish, claim, look_at_turn, look_to_read, look_to_clear, takes, see, read, wipe, leave, quit, split, join, state_after}
use Rattle.metrics_bucket.specs.Facts.{below, turn_in, took_in, took_of, HoldFits, Facts}
use Rattle.metrics_bucket.specs.Places.{pushes_at, pushed_at, value_at, held_in, tickets_at, lengths_of, clearing_of, told_of, walks_in, takes_in, given_of, walks_at, is_wiped, wiped_hold, wipes_at, mark_of, IsPush, VisitFinds, HoldPlaced, ViewPlaced, Placed}
use Rattle.metrics_bucket.specs.History.{HasVisit, CanLeave, CanQuit, May, Event, Runs, begins, FollowsHistory}
use Rattle.metrics_bucket.proofs.Sums.{total_set, total_snoc, total_zero}
use Rattle.metrics_bucket.proofs.Visits.{new_visit}
use Rattle.metrics_bucket.proofs.Keep.{at_below, other_side}
use Rattle.metrics_bucket.proofs.Shares.{zeros, fresh, IsNew}
use Rattle.metrics_bucket.proofs.Histories.{step_facts, begun_facts, first_threads, threads_new}
use Rattle.metrics_bucket.proofs.Placing.{visits_find, pushes_at-append, values_at-append, lengths_of-append, walks_in-append, walks_at-append, cond_same, hold_kept, view_kept}
use Rattle.metrics_bucket.proofs.WipedVisits.{wiped_same}
use Rattle.metrics_bucket.proofs.PlacedCounts.{keeps_places, keeps_found}
use Rattle.metrics_bucket.proofs.PlacedPushes.{tickets, writes, finishes}
use Rattle.metrics_bucket.proofs.PlacedTakes.{takes_side}
use Rattle.metrics_bucket.proofs.PlacedWalks.{wipes, leaves_clear, leaves_read, reads_push}

get_zero : (n k : ℕ) → get_or (zeros n) k 0 ≡ 0
get_zero zero k = refl
get_zero (suc n) zero = refl
get_zero (suc n) (suc k) = get_zero n k

-- where nothing was done
pub opens_placed : (places : ℕ) (views : List View) → ((j : ℕ) (v : View) → get_elem? views j ≡ some v → IsNew places v) → Placed places (fresh places views)
opens_placed places views new =
    let none_told : (e : ℕ) → total (told_of e) views ≡ 0 = λ e. total_zero (told_of e) views (λ j v at. let n = (new j v at).1 in let a : lengths_of e v.taken ≡ 0 = ap (lengths_of e) n.1 in let b : clearing_of e v.epoch v.hold ≡ 0 = ap (clearing_of e v.epoch) n.3 in omega arith) in
    let none_pushed : (e i : ℕ) → total (pushed_at e i) views ≡ 0 = λ e i. total_zero (pushed_at e i) views (λ j v at. ap (pushes_at e i) (new j v at).1.0) in
    record {
      tickets = λ e i.
          let t = total_zero (tickets_at e i) views (λ j v at. let n = (new j v at).1 in let a : pushes_at e i v.pushed ≡ 0 = ap (pushes_at e i) n.0 in let b : held_in e i v.epoch v.hold ≡ 0 = ap (held_in e i v.epoch) n.3 in omega arith) in
          let g : given_of e (fresh places views) ≡ 0 = (let a = none_told e in let b = cond_same e 0 0 in omega arith) in
          t ∙ sym (ap (below i) g);
      told = λ e l. none_told e;
      room = λ e. let a = none_told e in omega arith;
      once = λ e. total_zero (takes_in e) views (λ j v at. let n = (new j v at).1 in let a : walks_in e v.taken ≡ 0 = ap (walks_in e) n.1 in let b : cond (eqb e v.epoch) (took_in v.hold) 0 ≡ 0 = ap (λ (k : ℕ). cond (eqb e v.epoch) k 0) (ap took_in n.3) ∙ cond_same e v.epoch 0 in omega arith);
      one_place = λ e i l.
          let a = none_pushed e i in
          let b = total_zero (wipes_at e i) views (λ j v at. let n = (new j v at).1 in let x : walks_at e i v.taken ≡ 0 = ap (walks_at e i) n.1 in let y : wiped_hold e i v.epoch v.hold ≡ 0 = ap (wiped_hold e i v.epoch) n.3 in omega arith) in
          let m0 = get_zero (places + places) (place_index places 0 i) in
          let m1 = get_zero (places + places) (place_index places 1 i) in
          let c : mark_of places (fresh places views) e i ≡ 0 = (λ k. cond (eqb e 0) (m0 k) (cond (eqb (suc e) 0) (m1 k) 0)) ∙ (ap (λ (n : ℕ). cond (eqb e 0) 0 n) (cond_same (suc e) 0 0) ∙ cond_same e 0 0) in
          omega arith;
      marked = λ s i a b one. let z = get_zero (places + places) (place_index places s i) in absurd (omega arith);
      each = λ j v at. let n = (new j v at).1 in record {
        hold = subst (HoldPlaced (fresh places views) v.epoch) (sym n.3) tt;
        turn = λ t. let z : turn_in v.hold ≡ 0 = ap turn_in n.3 in absurd (omega arith);
        taken = λ k walk e. absurd (some-ne-none walk (sym e ∙ ap (λ (l : List Walk). get_elem? l k) n.1));
        read = λ k walk e. absurd (some-ne-none walk (sym e ∙ ap (λ (l : List Walk). get_elem? l k) n.2));
      };
      takes = sym (total_zero took_of views (λ j v at. let n = (new j v at).1 in let a : length v.taken ≡ 0 = ap length n.1 in let b : took_in v.hold ≡ 0 = ap took_in n.3 in omega arith));
    }

at_either : {A : Type 0} (xs ys : List A) (n : ℕ) (a : A) → get_elem? (xs ++ ys) n ≡ some a → (get_elem? xs n ≡ some a) ⊎ ((m : ℕ) × (get_elem? ys m ≡ some a))
at_either [] ys n a e = inr (n, e)
at_either (x ∷ xs) ys zero a e = inl e
at_either (x ∷ xs) ys (suc n) a e = at_either xs ys n a e

-- other lists of threads that have as much of everything
module _ (places : ℕ) (w : BucketState) (p : Placed places w) (views : List View) (pushed : (e i : ℕ) → total (pushed_at e i) views ≡ total (pushed_at e i) w.views) (values : (e i : ℕ) → total (value_at e i) views ≡ total (value_at e i) w.views)
    (ticketed : (e i : ℕ) → total (tickets_at e i) views ≡ total (tickets_at e i) w.views) (told : (e : ℕ) → total (told_of e) views ≡ total (told_of e) w.views) (same_takes : (e : ℕ) → total (takes_in e) views ≡ total (takes_in e) w.views) (wiped : (e i : ℕ) → total (wipes_at e i) views ≡ total (wipes_at e i) w.views)
    (took : total took_of views ≡ total took_of w.views) (walks : total walks_of views ≡ total walks_of w.views) where
  abbrev after : BucketState
  after = record w { views = views }

  pub shared_pushes : (e i x : ℕ) → IsPush w e i x → IsPush after e i x
  shared_pushes e i x k = (pushed e i ∙ k.0, values e i ∙ k.1)

  pub shared_view : (v : View) → ViewPlaced w v → ViewPlaced after v
  shared_view v k = view_kept w after shared_pushes v (hold_kept w after shared_pushes refl refl v.epoch v.hold) (λ _. walks) k

  pub shared : ((j : ℕ) (v : View) → get_elem? views j ≡ some v → ViewPlaced after v) → Placed places after
  shared each = record {
    tickets = λ e i. ticketed e i ∙ (p.tickets e i ∙ ap (λ (n : ℕ). below i (n + cond (eqb e w.epoch) w.given 0)) (sym (told e)));
    told = λ e l. told e ∙ p.told e l;
    room = λ e. let a = told e in let b = p.room e in omega arith;
    once = λ e. same_takes e ∙ p.once e;
    one_place = λ e i l. let a = p.one_place e i l in let b = pushed e i in let c = wiped e i in omega arith;
    marked = λ s i a b m. let t = p.marked s i a b m in (t.0, t.1, shared_pushes t.0 i (get_or w.values (place_index places s i) 0) t.2);
    each = each;
    takes = p.takes ∙ sym took;
  }

module _ (places : ℕ) (w : BucketState) (p : Placed places w) where
  pub splits : (id : ℕ) (v : View) → get_elem? w.views id ≡ some v → v.hold ≡ Nothing → Placed places record w { views = set w.views id (left_part v) ++ right_part v ∷ [] }
  splits id v at free =
      let vs : List View = set w.views id (left_part v) in
      let views : List View = vs ++ right_part v ∷ [] in
      let same_total : (g : View → ℕ) → g (left_part v) ≡ g v → g (right_part v) ≡ 0 → total g views ≡ total g w.views = λ g a b. let t = total_set g w.views id v (left_part v) at in let s = total_snoc g vs (right_part v) in omega arith in
      let pushed : (e i : ℕ) → total (pushed_at e i) views ≡ total (pushed_at e i) w.views = λ e i. same_total (pushed_at e i) refl refl in
      let values : (e i : ℕ) → total (value_at e i) views ≡ total (value_at e i) w.views = λ e i. same_total (value_at e i) refl refl in
      let ticketed : (e i : ℕ) → total (tickets_at e i) views ≡ total (tickets_at e i) w.views = λ e i. same_total (tickets_at e i) refl (omega arith) in
      let told : (e : ℕ) → total (told_of e) views ≡ total (told_of e) w.views = λ e. same_total (told_of e) refl (omega arith) in
      let same_takes : (e : ℕ) → total (takes_in e) views ≡ total (takes_in e) w.views = λ e. same_total (takes_in e) refl (let z = cond_same e 0 0 in omega arith) in
      let wiped : (e i : ℕ) → total (wipes_at e i) views ≡ total (wipes_at e i) w.views = λ e i. same_total (wipes_at e i) refl (omega arith) in
      let took : total took_of views ≡ total took_of w.views = same_total took_of refl (omega arith) in
      let walks : total walks_of views ≡ total walks_of w.views = same_total walks_of refl (omega arith) in
      let w' : BucketState = record w { views = views } in
      let carry : (u : View) → ViewPlaced w u → ViewPlaced w' u = shared_view places w p views pushed values ticketed told same_takes wiped took walks in
      shared places w p views pushed values ticketed told same_takes wiped took walks (λ j u there. ⊎_elim
      (λ (r : get_elem? vs j ≡ some u). ⊎_elim
      (λ (t : (j ≡ id) × (left_part v ≡ u)). let k = carry v (p.each id v at) in subst (ViewPlaced w') t.1 record { hold = k.hold; turn = k.turn; taken = k.taken; read = k.read })
      (λ (t : (j ≢ id) × (get_elem? w.views j ≡ some u)). carry u (p.each j u t.1))
      (at_set w.views id j (left_part v) u r))
      (λ (r : right_part v ≡ u). subst (ViewPlaced w') r record {
        hold = tt;
        turn = λ t. absurd (omega arith);
        taken = λ n walk e. absurd (some-ne-none walk (sym e));
        read = λ n walk e. absurd (some-ne-none walk (sym e));
      })
      (at_snoc vs (right_part v) u j there))

  pub joins : (id : ℕ) (v : View) (other_id : ℕ) (x : View) → get_elem? w.views id ≡ some v → other_id ≢ id → get_elem? w.views other_id ≡ some x → v.hold ≡ Nothing → x.hold ≡ Nothing
      → Placed places record w { views = set (set w.views id (both_parts v x)) other_id (new_view 0 0) }
  joins id v other_id x at apart there e d =
      let vs : List View = set w.views id (both_parts v x) in
      let views : List View = set vs other_id (new_view 0 0) in
      let there' : get_elem? vs other_id ≡ some x = set_else w.views id other_id (both_parts v x) apart ∙ there in
      let same_total : (g : View → ℕ) → g (both_parts v x) ≡ g v + g x → g (new_view 0 0) ≡ 0 → total g views ≡ total g w.views =
      λ g a b. let t = total_set g w.views id v (both_parts v x) at in let s = total_set g vs other_id x (new_view 0 0) there' in omega arith
      in
      let pushed : (k i : ℕ) → total (pushed_at k i) views ≡ total (pushed_at k i) w.views = λ k i. same_total (pushed_at k i) (pushes_at-append k i v.pushed x.pushed) refl in
      let values : (k i : ℕ) → total (value_at k i) views ≡ total (value_at k i) w.views = λ k i. same_total (value_at k i) (values_at-append k i v.pushed x.pushed) refl in
      let ticketed : (k i : ℕ) → total (tickets_at k i) views ≡ total (tickets_at k i) w.views =
      λ k i. let a = pushes_at-append k i v.pushed x.pushed in let b : held_in k i x.epoch x.hold ≡ 0 = ap (held_in k i x.epoch) d in same_total (tickets_at k i) (omega arith) (omega arith)
      in
      let told : (k : ℕ) → total (told_of k) views ≡ total (told_of k) w.views = λ k. let a = lengths_of-append k v.taken x.taken in let b : clearing_of k x.epoch x.hold ≡ 0 = ap (clearing_of k x.epoch) d in same_total (told_of k) (omega arith) (omega arith) in
      let same_takes : (k : ℕ) → total (takes_in k) views ≡ total (takes_in k) w.views =
      λ k. let a = walks_in-append k v.taken x.taken in let b : cond (eqb k x.epoch) (took_in x.hold) 0 ≡ 0 = ap (λ (n : ℕ). cond (eqb k x.epoch) n 0) (ap took_in d) ∙ cond_same k x.epoch 0 in let c = cond_same k 0 0 in same_total (takes_in k) (omega arith) (omega arith)
      in
      let wiped : (k i : ℕ) → total (wipes_at k i) views ≡ total (wipes_at k i) w.views =
      λ k i. let a = walks_at-append k i v.taken x.taken in let b : wiped_hold k i x.epoch x.hold ≡ 0 = ap (wiped_hold k i x.epoch) d in same_total (wipes_at k i) (omega arith) (omega arith)
      in
      let took : total took_of views ≡ total took_of w.views = (let a = length-append v.taken x.taken in let b : took_in x.hold ≡ 0 = ap took_in d in same_total took_of (omega arith) (omega arith)) in
      let walks : total walks_of views ≡ total walks_of w.views = (let a = length-append v.taken x.taken in let b = length-append v.read x.read in same_total walks_of (omega arith) (omega arith)) in
      let w' : BucketState = record w { views = views } in
      let carry : (u : View) → ViewPlaced w u → ViewPlaced w' u = shared_view places w p views pushed values ticketed told same_takes wiped took walks in
      let mine = carry v (p.each id v at) in
      let his = carry x (p.each other_id x there) in
      shared places w p views pushed values ticketed told same_takes wiped took walks (λ j u r. ⊎_elim
      (λ (t : (j ≡ other_id) × (new_view 0 0 ≡ u)). subst (ViewPlaced w') t.1 record {
        hold = tt;
        turn = λ t. absurd (omega arith);
        taken = λ n walk k. absurd (some-ne-none walk (sym k));
        read = λ n walk k. absurd (some-ne-none walk (sym k));
      })
      (λ (t : (j ≢ other_id) × (get_elem? vs j ≡ some u)). ⊎_elim
      (λ (q : (j ≡ id) × (both_parts v x ≡ u)). subst (ViewPlaced w') q.1 record {
        hold = mine.hold;
        turn = mine.turn;
        taken = λ n walk k. ⊎_elim (λ (l : get_elem? v.taken n ≡ some walk). mine.taken n walk l) (λ (l : (m : ℕ) × (get_elem? x.taken m ≡ some walk)). his.taken l.0 walk l.1) (at_either v.taken x.taken n walk k);
        read = λ n walk k. ⊎_elim (λ (l : get_elem? v.read n ≡ some walk). mine.read n walk l) (λ (l : (m : ℕ) × (get_elem? x.read m ≡ some walk)). his.read l.0 walk l.1) (at_either v.read x.read n walk k);
      })
      (λ (q : (j ≢ id) × (get_elem? w.views j ≡ some u)). carry u (p.each j u q.1))
      (at_set w.views id j (both_parts v x) u t.1))
      (at_set vs other_id j (new_view 0 0) u r))

module _ (places all : ℕ) (w : BucketState) (id : ℕ) (v : View) (f : Facts places all w) (p : Placed places w) (at : get_elem? w.views id ≡ some v) (has : 0 < v.weight) where
  visit_reading : (s i : ℕ) (visits : List Visit) (d : Visit) → v.hold ≡ Reading s visits → VisitFinds w v.epoch i d → Placed places record w { views = set w.views id (holding v (Reading s (set visits i d))) }
  visit_reading s i visits d e new =
      let placed : HoldPlaced w v.epoch (Reading s visits) = subst (HoldPlaced w v.epoch) e (p.each id v at).hold in
      keeps_places places all w id v f p at has w.turn v.epoch v.turn v.seen v.looks (Reading s (set visits i d))
      (λ k j. sym (ap (held_in k j v.epoch) e)) (λ k. sym (ap (clearing_of k v.epoch) e)) (λ k j. sym (ap (wiped_hold k j v.epoch) e)) (sym (ap took_in e)) (λ k. ap (λ (n : ℕ). cond (eqb k v.epoch) n 0) (sym (ap took_in e)))
      (placed.0, visits_find w v.epoch i visits d placed.1 new) (λ _. (p.each id v at).turn (ap turn_in e))

  visit_clearing : (s i : ℕ) (visits : List Visit) (c d : Visit) → v.hold ≡ Clearing s visits → get_elem? visits i ≡ some c → is_wiped d ≡ is_wiped c → VisitFinds w v.epoch i d → Placed places record w { views = set w.views id (holding v (Clearing s (set visits i d))) }
  visit_clearing s i visits c d e there same_wiped new =
      let placed : HoldPlaced w v.epoch (Clearing s visits) = subst (HoldPlaced w v.epoch) e (p.each id v at).hold in
      keeps_places places all w id v f p at has w.turn v.epoch v.turn v.seen v.looks (Clearing s (set visits i d))
      (λ k j. sym (ap (held_in k j v.epoch) e))
      (λ k. ap (λ (n : ℕ). cond (eqb k v.epoch) n 0) (length-set visits i d) ∙ sym (ap (clearing_of k v.epoch) e))
      (λ k j. ap (λ (n : ℕ). cond (eqb k v.epoch) n 0) (wiped_same visits i j c d there same_wiped) ∙ sym (ap (wiped_hold k j v.epoch) e)) (sym (ap took_in e)) (λ k. ap (λ (n : ℕ). cond (eqb k v.epoch) n 0) (sym (ap took_in e)))
      (placed.0, visits_find w v.epoch i visits d placed.1 new) (λ _. (p.each id v at).turn (ap turn_in e))

  sees : (i : ℕ) (hold : Hold) → v.hold ≡ hold → HasVisit hold i Unseen → Placed places record w { views = set w.views id (holding v (put_visit hold i Marked)) }
  sees i (Reading s visits) e c = visit_reading s i visits Marked e tt
  sees i (Clearing s visits) e c = visit_clearing s i visits Unseen Marked e c refl tt
  sees i Nothing e c = absurd c
  sees i (Ticket s j) e c = absurd c
  sees i (Written s j x) e c = absurd c
  sees i Claimed e c = absurd c
  sees i (SideKnown s) e c = absurd c
  sees i (Settling s xs) e c = absurd c

  reads : (i : ℕ) (hold : Hold) → v.hold ≡ hold → HasVisit hold i Marked → Placed places record w { views = set w.views id (holding v (put_visit hold i (Read (get_or w.values (place_index places (side_of hold) i) 0)))) }
  reads i (Reading s visits) e c =
      let fits : HoldFits places all w v.weight (Reading s visits) = subst (HoldFits places all w v.weight) e (f.each id v at).hold in
      let placed : HoldPlaced w v.epoch (Reading s visits) = subst (HoldPlaced w v.epoch) e (p.each id v at).hold in
      let below_all = at_below visits i Marked c in let a = fits.1 in let b = f.room in
      let s2 : s < 2 = subst (λ (z : ℕ). z < 2) (sym fits.0) f.side in
      visit_reading s i visits (Read (get_or w.values (place_index places s i) 0)) e (reads_push places all w id v f p at has s i s2 (omega arith) (inl (fits.0, placed.0)) (fits.2 i Marked c))
  reads i (Clearing s visits) e c =
      let fits : HoldFits places all w v.weight (Clearing s visits) = subst (HoldFits places all w v.weight) e (f.each id v at).hold in
      let placed : HoldPlaced w v.epoch (Clearing s visits) = subst (HoldPlaced w v.epoch) e (p.each id v at).hold in
      let below_all = at_below visits i Marked c in let a = fits.1 in
      let s2 : s < 2 = subst (λ (z : ℕ). z < 2) (sym fits.0) (other_side w.live f.side).0 in
      visit_clearing s i visits Marked (Read (get_or w.values (place_index places s i) 0)) e c refl (reads_push places all w id v f p at has s i s2 (omega arith) (inr (fits.0, placed.0)) (fits.2 i Marked c))
  reads i Nothing e c = absurd c
  reads i (Ticket s j) e c = absurd c
  reads i (Written s j x) e c = absurd c
  reads i Claimed e c = absurd c
  reads i (SideKnown s) e c = absurd c
  reads i (Settling s xs) e c = absurd c

  leaves : (hold : Hold) → v.hold ≡ hold → CanLeave hold → Placed places record w { turn = 0; views = set w.views id (left_from v hold) }
  leaves (Reading s visits) e c = leaves_read places all w id v f p at has s visits e c
  leaves (Clearing s visits) e c = leaves_clear places all w id v f p at has s visits e c
  leaves Nothing e c = absurd c
  leaves (Ticket s j) e c = absurd c
  leaves (Written s j x) e c = absurd c
  leaves Claimed e c = absurd c
  leaves (SideKnown s) e c = absurd c
  leaves (Settling s xs) e c = absurd c

  -- a hold without a place changes to another
  quiet : (turn e' t' : ℕ) (hold : Hold) → ((k i : ℕ) → held_in k i v.epoch v.hold ≡ 0) → ((k : ℕ) → clearing_of k v.epoch v.hold ≡ 0) → ((k i : ℕ) → wiped_hold k i v.epoch v.hold ≡ 0) → took_in v.hold ≡ 0
      → ((k i : ℕ) → held_in k i e' hold ≡ 0) → ((k : ℕ) → clearing_of k e' hold ≡ 0) → ((k i : ℕ) → wiped_hold k i e' hold ≡ 0) → took_in hold ≡ 0
      → HoldPlaced w e' hold → (turn_in hold ≡ 1 → t' ≡ walks_made w) → Placed places record w { turn = turn; views = set w.views id (holds_as v e' t' hold) }
  quiet turn e' t' hold a b c d a' b' c' d' placed knows =
      keeps_places places all w id v f p at has turn e' t' v.seen v.looks hold (λ k i. a' k i ∙ sym (a k i)) (λ k. b' k ∙ sym (b k)) (λ k i. c' k i ∙ sym (c k i)) (d' ∙ sym d)
      (λ k. ap (λ (n : ℕ). cond (eqb k e') n 0) d' ∙ (cond_same k e' 0 ∙ sym (ap (λ (n : ℕ). cond (eqb k v.epoch) n 0) d ∙ cond_same k v.epoch 0))) placed knows

  quits : (hold : Hold) → v.hold ≡ hold → CanQuit hold → Placed places record w { turn = 0; views = set w.views id (holding v Nothing) }
  quits Claimed e c = quiet 0 v.epoch v.turn Nothing (λ k i. ap (held_in k i v.epoch) e) (λ k. ap (clearing_of k v.epoch) e) (λ k i. ap (wiped_hold k i v.epoch) e) (ap took_in e) (λ _ _. refl) (λ _. refl) (λ _ _. refl) refl tt (λ t. absurd (omega arith))
  quits (SideKnown s) e c = quiet 0 v.epoch v.turn Nothing (λ k i. ap (held_in k i v.epoch) e) (λ k. ap (clearing_of k v.epoch) e) (λ k i. ap (wiped_hold k i v.epoch) e) (ap took_in e) (λ _ _. refl) (λ _. refl) (λ _ _. refl) refl tt (λ t. absurd (omega arith))
  quits (Reading s visits) e c = quiet 0 v.epoch v.turn Nothing (λ k i. ap (held_in k i v.epoch) e) (λ k. ap (clearing_of k v.epoch) e) (λ k i. ap (wiped_hold k i v.epoch) e) (ap took_in e) (λ _ _. refl) (λ _. refl) (λ _ _. refl) refl tt (λ t. absurd (omega arith))
  quits (Clearing s visits) e c = absurd c
  quits Nothing e c = absurd c
  quits (Ticket s j) e c = absurd c
  quits (Written s j x) e c = absurd c
  quits (Settling s xs) e c = absurd c

  pub step_placed : (act : Act) → May places all w id v act → Placed places (state_after places w id v act)
  step_placed look m = keeps_places places all w id v f p at has w.turn v.epoch v.turn (2 * w.given + w.live) (v.looks + 1) v.hold (λ _ _. refl) (λ _. refl) (λ _ _. refl) refl (λ _. refl) (p.each id v at).hold (p.each id v at).turn
  step_placed look_to_settle m =
      let e = m.0 in
      quiet w.turn v.epoch v.turn (Settling w.live (live_values places w)) (λ k i. ap (held_in k i v.epoch) e) (λ k. ap (clearing_of k v.epoch) e) (λ k i. ap (wiped_hold k i v.epoch) e) (ap took_in e) (λ _ _. refl) (λ _. refl) (λ _ _. refl) refl tt (λ t. absurd (omega arith))
  step_placed ticket m = tickets places all w id v f p at has m.0 m.1
  step_placed (write s i x) m = writes places all w id v f p at has s i x m
  step_placed (finish s i x) m = finishes places all w id v f p at has s i x m
  step_placed claim m =
      let e = m.0 in
      quiet 1 v.epoch (walks_made w) Claimed (λ k i. ap (held_in k i v.epoch) e) (λ k. ap (clearing_of k v.epoch) e) (λ k i. ap (wiped_hold k i v.epoch) e) (ap took_in e) (λ _ _. refl) (λ _. refl) (λ _ _. refl) refl tt (λ _. refl)
  step_placed look_at_turn m = keeps_found places all w id v f p at has
  step_placed look_to_read e = quiet w.turn w.epoch v.turn (Reading w.live (replicate w.given Unseen)) (λ k i. ap (held_in k i v.epoch) e) (λ k. ap (clearing_of k v.epoch) e) (λ k i. ap (wiped_hold k i v.epoch) e) (ap took_in e) (λ _ _. refl) (λ _. refl) (λ _ _. refl) refl
      (refl, λ i c there. subst (VisitFinds w w.epoch i) (new_visit w.given i c there) tt) (λ _. (p.each id v at).turn (ap turn_in e))
  step_placed look_to_clear e = quiet w.turn v.epoch v.turn (SideKnown w.live) (λ k i. ap (held_in k i v.epoch) e) (λ k. ap (clearing_of k v.epoch) e) (λ k i. ap (wiped_hold k i v.epoch) e) (ap took_in e) (λ _ _. refl) (λ _. refl) (λ _ _. refl) refl tt (λ _. (p.each id v at).turn (ap turn_in e))
  step_placed takes m = takes_side places all w id v f p at has m.0 m.1
  step_placed (see i) m = sees i v.hold refl m.0
  step_placed (read i) m = reads i v.hold refl m
  step_placed (wipe s i x) m = subst (λ (z : Hold). Placed places record w { marks = set w.marks (place_index places s i) 0; views = set w.views id (holding v (put_visit z i (Wiped x))) })
      (sym m.1) (wipes places all w id v f p at has s i x m.0 m.1 m.2)
  step_placed leave m = leaves v.hold refl m
  step_placed quit m = quits v.hold refl m
  step_placed split m = splits places w p id v at m.0
  step_placed (join other_id x) m = joins places w p id v other_id x at m.2 m.3 m.0 m.1

pub runs_placed : (places all : ℕ) (w : BucketState) (history : List Event) (w' : BucketState) → Facts places all w → Placed places w → Runs places all w history w' → Placed places w'
runs_placed places all w [] w' f p r = subst (Placed places) r p
runs_placed places all w (e ∷ es) w' f p r =
    runs_placed places all (state_after places w e.by r.0 e.act) es w' (step_facts places all w e.by r.0 f r.1 r.2 e.act r.3) (step_placed places all w e.by r.0 f p r.1 r.2 e.act r.3) r.4

begun_placed : (many : Bool) (places all : ℕ) → Placed places (begins many places all)
begun_placed false places all = opens_placed places (first_threads false places all) (threads_new false places all)
begun_placed true places all = opens_placed places (first_threads true places all) (threads_new true places all)

-- the places in a running table
pub placed : (places : ℕ) (many : Bool) (s : State Turn View) (k : FollowsHistory places many s) → Placed places k.1
placed places many s k = runs_placed places k.2.0 (begins many places k.2.0) k.0 k.1 (begun_facts many places k.2.0) (begun_placed many places k.2.0) k.2.1
