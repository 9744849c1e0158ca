-- The steps of a walk keep the facts.
use Rattle.std.proofs.Common.{◌≡◌, ◌≢◌, ℕ, ◌+◌, ◌%◌, ◌<◌, cond, eqb, List, get_or, set, replicate, refl, sym, ap, ◌∙◌, subst, ⊎_elim, arith, length-set}
use mathlib.Core.Logic.{dite}
use mathlib.Core.Option.{some, some-injective}
use native.Mathlib.Decide.{ℕ_discrete}
use lib.ListN.{get_elem?}
use Rattle.atomic_table.proofs.Lists.{at_set}
use Rattle.metrics_bucket.specs.declared.view.View.{View}
use Rattle.metrics_bucket.specs.declared.view.Hold.{Hold}
use Rattle.metrics_bucket.specs.declared.view.Hold.TheVariants.{Nothing, Claimed, SideKnown, Reading, Clearing, Settling}
use Rattle.metrics_bucket.specs.declared.view.Visit.{Visit}
use Rattle.metrics_bucket.specs.declared.view.Visit.TheVariants.{Unseen, Marked, Read, Wiped}
use Rattle.metrics_bucket.specs.BucketState.{total, BucketState, other, place_index, live_values, holding, holding_at, claiming, walks_made, look_to_settle, claim, look_to_read, look_to_clear, takes, state_after}
use Rattle.metrics_bucket.specs.Facts.{given_at, ticket_in, ticket_at, is_open, owed_in, owed_at, turn_in, turn_of, took_in, took_of, weight_of, pushed_of, taken_of, wiped, wiped_visit, wiped_in, VisitFits, VisitsFit, HoldFits, ViewFits, Facts}
use Rattle.metrics_bucket.proofs.Sums.{total_set, given_here, given_else, open_new}
use Rattle.metrics_bucket.proofs.Keep.{other_side, turn_alone, owed_le, each_after, held_by, facts_beside}
use Rattle.metrics_bucket.proofs.Visits.{open_kept, wiped_set, wiped_new, new_visit, length_new, other_next}

given_none : (live s i : ℕ) → given_at live 0 s i ≡ 0
given_none live s i = dite (ℕ_discrete s live) (λ e. given_here live 0 s i e) (λ n. given_else live 0 s i n)

module _ (places all : ℕ) (w : BucketState) (id : ℕ) (v : View) (f : Facts places all w) (at : get_elem? w.views id ≡ some v) (has : 0 < v.weight) where
  abbrev mine : ViewFits places all w v
  mine = f.each id v at

  abbrev with_hold : Hold → BucketState
  with_hold hold = record w { views = set w.views id (holding v hold) }

  abbrev with_hold_at : ℕ → Hold → BucketState
  with_hold_at epoch hold = record w { views = set w.views id (holding_at v epoch hold) }

  -- a step that changes no word, and nothing that is counted in what the thread holds
  pub keeps_hold : (epoch : ℕ) (hold : Hold) → ((s i : ℕ) → ticket_in s i hold ≡ ticket_in s i v.hold) → ((s i : ℕ) → owed_in s i hold ≡ owed_in s i v.hold) → turn_in hold ≡ turn_in v.hold → took_in hold ≡ took_in v.hold
      → ((h : ℕ → ℕ) → wiped h hold ≡ wiped h v.hold) → HoldFits places all (with_hold_at epoch hold) v.weight hold → Facts places all (with_hold_at epoch hold)
  keeps_hold epoch hold ticket owed turn took wipes fits =
      facts_beside places all w (with_hold_at epoch hold) id v (holding_at v epoch hold) f at has refl refl refl refl (omega arith) refl refl refl (λ s i. let t = ticket s i in let o = owed s i in omega arith) (omega arith) f.one_turn
      (λ h. let k = wipes h in omega arith) (λ h. omega arith) fits mine.reads

  pub claims : v.hold ≡ Nothing → w.turn ≡ 0 → Facts places all (state_after places w id v claim)
  claims e free =
      facts_beside places all w (state_after places w id v claim) id (holding v Nothing) (claiming v (walks_made w)) f (held_by w id v Nothing at e) has refl refl refl refl refl refl refl refl (λ s i. refl) (omega arith) (omega arith)
      (λ h. refl) (λ h. omega arith) tt mine.reads

  pub surveys : v.hold ≡ Claimed → Facts places all (state_after places w id v look_to_read)
  surveys e = keeps_hold w.epoch (Reading w.live (replicate w.given Unseen))
      (λ s i. sym (ap (ticket_in s i) e)) (λ s i. sym (ap (owed_in s i) e)) (sym (ap turn_in e)) (sym (ap took_in e)) (λ h. sym (ap (wiped h) e))
      (let l = length_new w.given in (refl, omega arith, (λ i c there. subst (VisitFits (get_or w.marks (place_index places w.live i) 0) (get_or w.values (place_index places w.live i) 0)) (new_visit w.given i c there) tt), λ _. l))

  pub gathers : v.hold ≡ Nothing → v.weight ≡ all → Facts places all (state_after places w id v look_to_settle)
  gathers e whole = keeps_hold v.epoch (Settling w.live (live_values places w))
      (λ s i. sym (ap (ticket_in s i) e)) (λ s i. sym (ap (owed_in s i) e)) (sym (ap turn_in e)) (sym (ap took_in e)) (λ h. sym (ap (wiped h) e))
      (whole, refl, refl)

  pub aims : v.hold ≡ Claimed → Facts places all (state_after places w id v look_to_clear)
  aims e = keeps_hold v.epoch (SideKnown w.live)
      (λ s i. sym (ap (ticket_in s i) e)) (λ s i. sym (ap (owed_in s i) e)) (sym (ap turn_in e)) (sym (ap took_in e)) (λ h. sym (ap (wiped h) e))
      refl

  -- at each take the side that becomes live has no mark and no ticket under way
  pub take_clean : (t : ℕ) → v.hold ≡ SideKnown t → (i : ℕ) → i < places → (get_or w.marks (place_index places (other w.live) i) 0 ≡ 0) × (total (ticket_at (other w.live) i) w.views ≡ 0)
  take_clean t e i l =
      let o = other_side w.live f.side in
      let x = f.even (other w.live) i o.0 l in
      let g = given_else w.live w.given (other w.live) i (λ z. o.1 (sym z)) in
      let none_owed = Rattle.metrics_bucket.proofs.Sums.total_zero (owed_at (other w.live) i) w.views
      (λ j u there. dite (ℕ_discrete j id)
      (λ same_one. let is : v ≡ u = some-injective v u (sym at ∙ ((λ k. get_elem? w.views (sym same_one k)) ∙ there)) in ap (λ (z : View). owed_at (other w.live) i z) (sym is) ∙ ap (owed_in (other w.live) i) e)
      (λ n. let a = turn_alone places all w f id v at (ap turn_in e) j u n there in let b = owed_le (other w.live) i u.hold in omega arith))
      in (omega arith, omega arith)

  pub takes_side : (t : ℕ) → v.hold ≡ SideKnown t → Facts places all (state_after places w id v takes)
  takes_side to e =
      let u : View = holding_at v w.epoch (Clearing w.live (replicate w.given Unseen)) in
      let o = other_side w.live f.side in
      let alone_here = turn_alone places all w f id v at (ap turn_in e) in
      let room = f.room in
      let l = length_new w.given in
      record {
        side = o.0;
        room = omega arith;
        values_long = f.values_long;
        marks_long = f.marks_long;
        even = λ s i a b.
            let x = f.even s i a b in
            let t = total_set (ticket_at s i) w.views id v u at in
            let t0 : ticket_at s i v ≡ 0 = ap (ticket_in s i) e in
            let p = total_set (owed_at s i) w.views id v u at in
            let p0 : owed_at s i v ≡ 0 = ap (owed_in s i) e in
            let p1 : owed_at s i u ≡ given_at w.live w.given s i = ap (λ (n : ℕ). cond (eqb s w.live) n 0) (open_new w.given i) in
            let g = given_none (other w.live) s i in
            omega arith;
        turns = let x = f.turns in let t = total_set turn_of w.views id v u at in let t0 : turn_of v ≡ 1 = ap turn_in e in omega arith;
        one_turn = f.one_turn;
        swaps = let t = total_set took_of w.views id v u at in let t0 : took_in v.hold ≡ 0 = ap took_in e in let more : total took_of w.views + 1 ≡ total took_of (set w.views id u) = omega arith in
            other_next w.live (total took_of w.views) f.side f.swaps ∙ ap (λ (n : ℕ). n % 2) more;
        shares = let x = f.shares in let t = total_set weight_of w.views id v u at in omega arith;
        bags = λ h.
            let x = f.bags h in
            let t = total_set (pushed_of h) w.views id v u at in
            let k = total_set (taken_of h) w.views id v u at in
            let k0 : wiped h v.hold ≡ 0 = ap (wiped h) e in
            let k1 : wiped h u.hold ≡ 0 = wiped_new h w.given in
            omega arith;
        each = each_after places all w (state_after places w id v takes) id v u f at has refl refl refl (λ h. omega arith)
            (sym o.2, omega arith, (λ i c there. subst (VisitFits (get_or w.marks (place_index places w.live i) 0) (get_or w.values (place_index places w.live i) 0)) (new_visit w.given i c there) tt), λ _. refl)
            mine.reads
            (λ j z n there turn. let none_there = alone_here j z n there in absurd (omega arith))
            (λ j z n there s i a b t. refl)
            (λ j z n there s i a b t m. (m, refl));
      }

  -- a visit of a walk is seen or read
  visits_fit : (s i : ℕ) (visits : List Visit) (d : Visit) → VisitsFit places w s visits → VisitFits (get_or w.marks (place_index places s i) 0) (get_or w.values (place_index places s i) 0) d → VisitsFit places w s (set visits i d)
  visits_fit s i visits d fits new j c there = ⊎_elim
      (λ (t : (j ≡ i) × (d ≡ c)). subst (λ (z : ℕ × Visit). VisitFits (get_or w.marks (place_index places s z.0) 0) (get_or w.values (place_index places s z.0) 0) z.1) (λ k. (sym t.0 k, t.1 k)) new)
      (λ (t : (j ≢ i) × (get_elem? visits j ≡ some c)). fits j c t.1)
      (at_set visits i j d c there)

  pub visit_reading : (s i : ℕ) (visits : List Visit) (c d : Visit) → v.hold ≡ Reading s visits → get_elem? visits i ≡ some c
      → VisitFits (get_or w.marks (place_index places s i) 0) (get_or w.values (place_index places s i) 0) d → Facts places all (with_hold (Reading s (set visits i d)))
  visit_reading s i visits c d e there new =
      let fits : HoldFits places all w v.weight (Reading s visits) = subst (HoldFits places all w v.weight) e mine.hold in
      let l = length-set visits i d in let k = fits.1 in
      keeps_hold v.epoch (Reading s (set visits i d)) (λ s i. sym (ap (ticket_in s i) e)) (λ s i. sym (ap (owed_in s i) e)) (sym (ap turn_in e)) (sym (ap took_in e)) (λ h. sym (ap (wiped h) e))
      (fits.0, omega arith, visits_fit s i visits d fits.2 new, λ whole. l ∙ fits.3 whole)

  pub visit_clearing : (s i : ℕ) (visits : List Visit) (c d : Visit) → v.hold ≡ Clearing s visits → get_elem? visits i ≡ some c → is_open c ≡ 1 → is_open d ≡ 1
      → VisitFits (get_or w.marks (place_index places s i) 0) (get_or w.values (place_index places s i) 0) d → Facts places all (with_hold (Clearing s (set visits i d)))
  visit_clearing s i visits c d e there a b new =
      let fits : HoldFits places all w v.weight (Clearing s visits) = subst (HoldFits places all w v.weight) e mine.hold in
      let l = length-set visits i d in let k = fits.1 in
      keeps_hold v.epoch (Clearing s (set visits i d)) (λ s i. sym (ap (ticket_in s i) e))
      (λ s' j. ap (λ (n : ℕ). cond (eqb s' s) n 0) (open_kept visits i j c d there (b ∙ sym a)) ∙ sym (ap (owed_in s' j) e))
      (sym (ap turn_in e)) (sym (ap took_in e))
      (λ h. let x = wiped_set h visits i c d there in let y = not_wiped h c a in let z = not_wiped h d b in let q : wiped h v.hold ≡ wiped_in h visits = ap (wiped h) e in omega arith)
      (fits.0, omega arith, visits_fit s i visits d fits.2 new, fits.3)
    where
      not_wiped : (h : ℕ → ℕ) (c : Visit) → is_open c ≡ 1 → wiped_visit h c ≡ 0
      not_wiped h Unseen o = refl
      not_wiped h Marked o = refl
      not_wiped h (Read x) o = refl
      not_wiped h (Wiped x) o = absurd (omega arith)
