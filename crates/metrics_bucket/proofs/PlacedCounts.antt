-- A step of one thread that leaves its counts of tickets, of reported places and of takes keeps the places.
use Rattle.std.proofs.Common.{◌≡◌, ◌≢◌, ℕ, ◌+◌, ◌<◌, ◌≤◌, cond, eqb, List, get_or, set, refl, sym, ap, ◌∙◌, subst, arith}
use mathlib.Core.Option.{some}
use lib.ListN.{get_elem?}
use Rattle.metrics_bucket.specs.declared.view.View.{View}
use Rattle.metrics_bucket.specs.declared.view.Hold.{Hold}
use Rattle.metrics_bucket.specs.BucketState.{BucketState, total, walks_of, walks_made, place_index, knows_as, finding_held}
use Rattle.metrics_bucket.specs.Facts.{below, turn_in, took_in, took_of, Facts}
use Rattle.metrics_bucket.specs.Places.{pushed_at, held_in, tickets_at, clearing_of, told_of, takes_in, given_of, wiped_hold, wipes_at, mark_of, IsPush, IsEpochOf, HoldPlaced, ViewPlaced, Placed}
use Rattle.metrics_bucket.proofs.Sums.{total_set}
use Rattle.metrics_bucket.proofs.Placing.{push_kept, hold_kept, view_kept, each_kept}

module _ (places : ℕ) (w w' : BucketState) (id : ℕ) (v u : View) (p : Placed places w) (at : get_elem? w.views id ≡ some v)
    (views : w'.views ≡ set w.views id u) (live : w'.live ≡ w.live) (epoch : w'.epoch ≡ w.epoch) (given : w'.given ≡ w.given) where
  new_total : (g : View → ℕ) → total g w'.views + g v ≡ total g w.views + g u
  new_total g = ap (λ (l : List View). total g l + g v) views ∙ total_set g w.views id v u at

  same_total : (g : View → ℕ) → g u ≡ g v → total g w'.views ≡ total g w.views
  same_total g e = let t = new_total g in omega arith

  given_same : (e : ℕ) → total (told_of e) w'.views ≡ total (told_of e) w.views → given_of e w' ≡ given_of e w
  given_same e same = λ k. same k + cond (eqb e (epoch k)) (given k) 0

  -- which mark changes and what is pushed there is the step's own
  pub keeps_counts : ((e i : ℕ) → tickets_at e i u ≡ tickets_at e i v) → ((e : ℕ) → told_of e u ≡ told_of e v) → ((e : ℕ) → takes_in e u ≡ takes_in e v) → took_of u ≡ took_of v
      → ((e i : ℕ) → i < places → pushed_at e i u + (mark_of places w e i + wipes_at e i v) ≡ pushed_at e i v + (mark_of places w' e i + wipes_at e i u))
      → ((s i : ℕ) → s < 2 → i < places → get_or w'.marks (place_index places s i) 0 ≡ 1 → (e : ℕ) × IsEpochOf w' s e × IsPush w' e i (get_or w'.values (place_index places s i) 0))
      → ((e i x : ℕ) → IsPush w e i x → IsPush w' e i x) → ViewPlaced w' u
      → ((j : ℕ) (z : View) → j ≢ id → get_elem? w.views j ≡ some z → turn_in z.hold ≡ 1 → walks_made w' ≡ walks_made w) → Placed places w'
  keeps_counts tickets told takes took place marked pushes mine others = record {
    tickets = λ e i. same_total (tickets_at e i) (tickets e i) ∙ (p.tickets e i ∙ ap (below i) (sym (given_same e (same_total (told_of e) (told e)))));
    told = λ e l. same_total (told_of e) (told e) ∙ p.told e (subst (λ (n : ℕ). n ≤ e) epoch l);
    room = λ e. let a = same_total (told_of e) (told e) in let b = p.room e in omega arith;
    once = λ e. same_total (takes_in e) (takes e) ∙ (p.once e ∙ ap (below e) (sym epoch));
    one_place = λ e i l.
        let y = p.one_place e i l in
        let t = new_total (pushed_at e i) in
        let c = new_total (wipes_at e i) in
        let h = place e i l in
        omega arith;
    marked = marked;
    each = each_kept w w' pushes places id u p views mine (λ j z n there. (hold_kept w w' pushes live epoch z.epoch z.hold, others j z n there));
    takes = epoch ∙ (p.takes ∙ sym (same_total took_of took));
  }

module _ (places all : ℕ) (w : BucketState) (id : ℕ) (v : View) (f : Facts places all w) (p : Placed places w) (at : get_elem? w.views id ≡ some v) (has : 0 < v.weight) where
  -- a step that changes no place, and nothing that is counted in what the thread holds
  pub keeps_places : (turn e' t' s' n' : ℕ) (hold : Hold) → ((e i : ℕ) → held_in e i e' hold ≡ held_in e i v.epoch v.hold) → ((e : ℕ) → clearing_of e e' hold ≡ clearing_of e v.epoch v.hold)
      → ((e i : ℕ) → wiped_hold e i e' hold ≡ wiped_hold e i v.epoch v.hold) → took_in hold ≡ took_in v.hold → ((e : ℕ) → cond (eqb e e') (took_in hold) 0 ≡ cond (eqb e v.epoch) (took_in v.hold) 0) → HoldPlaced w e' hold → (turn_in hold ≡ 1 → t' ≡ walks_made w)
      → Placed places record w { turn = turn; views = set w.views id (knows_as v e' t' s' n' hold) }
  keeps_places turn e' t' s' n' hold held clearing wiped took same_takes placed knows =
      let u : View = knows_as v e' t' s' n' hold in
      let w' : BucketState = record w { turn = turn; views = set w.views id u } in
      let walks : walks_made w' ≡ walks_made w = (let t = total_set walks_of w.views id v u at in omega arith) in
      let pushes : (e i x : ℕ) → IsPush w e i x → IsPush w' e i x = push_kept w w' id v u at refl refl in
      let mine = p.each id v at in
      keeps_counts places w w' id v u p at refl refl refl refl (λ e i. let h = held e i in omega arith) (λ e. let c = clearing e in omega arith) (λ e. let k = same_takes e in omega arith) (omega arith)
      (λ e i l. let d = wiped e i in omega arith) (λ s i a b m. let t = p.marked s i a b m in (t.0, t.1, pushes t.0 i (get_or w.values (place_index places s i) 0) t.2)) pushes
      (view_kept w w' pushes u (λ _. hold_kept w w' pushes refl refl e' hold placed) (λ _. walks) record { hold = placed; turn = knows; taken = mine.taken; read = mine.read })
      (λ _ _ _ _ _. walks)

  -- a look at the turn changes nothing that is counted
  pub keeps_found : Placed places record w { views = set w.views id (finding_held v) }
  keeps_found =
      let u : View = finding_held v in
      let w' : BucketState = record w { views = set w.views id u } in
      let walks : walks_made w' ≡ walks_made w = (let t = total_set walks_of w.views id v u at in omega arith) in
      let pushes : (e i x : ℕ) → IsPush w e i x → IsPush w' e i x = push_kept w w' id v u at refl refl in
      let mine = p.each id v at in
      keeps_counts places w w' id v u p at refl refl refl refl (λ _ _. refl) (λ _. refl) (λ _. refl) refl
      (λ e i l. refl) (λ s i a b m. let t = p.marked s i a b m in (t.0, t.1, pushes t.0 i (get_or w.values (place_index places s i) 0) t.2)) pushes
      (view_kept w w' pushes u (λ _. hold_kept w w' pushes refl refl v.epoch v.hold mine.hold) (λ _. walks) record { hold = mine.hold; turn = mine.turn; taken = mine.taken; read = mine.read })
      (λ _ _ _ _ _. walks)
