-- The law holds of each history.
use Rattle.std.proofs.Common.{◌≡◌, ℕ, zero, suc, ◌<◌, cond, eqb, List, [], ◌∷◌, length, get_or, replicate, refl, sym, ap, ◌∙◌, subst, arith}
use mathlib.Core.Logic.{dite}
use mathlib.Core.Option.{some, some-injective, some-ne-none}
use native.Mathlib.Decide.{ℕ_discrete, dec_le}
use lib.ListN.{get_elem?}
use Rattle.metrics_bucket.specs.declared.view.Push.{Push}
use Rattle.metrics_bucket.specs.declared.view.Walk.{Walk}
use Rattle.metrics_bucket.specs.declared.view.View.{View}
use Rattle.metrics_bucket.specs.declared.view.Hold.{Hold}
use Rattle.metrics_bucket.specs.declared.view.Hold.TheVariants.{Nothing, Ticket, Written, Claimed, SideKnown, Reading, Clearing, Settling}
use Rattle.metrics_bucket.specs.declared.view.Visit.TheVariants.{Marked, Read, Wiped}
use Rattle.metrics_bucket.specs.BucketState.{BucketState, total, walks_of, walks_made, place_index, side_of, value_in, leaving, left_from, new_view, whole_view, Act, ticket, write, finish, claim, look_at_turn, look_to_read, look_to_clear, takes, see, read, wipe, leave, view_after, state_after}
use Rattle.metrics_bucket.specs.Facts.{below, turn_in, took_in, weight_of, HoldFits, Facts}
use Rattle.metrics_bucket.specs.Places.{held_in, pushed_at, walks_in, takes_in, lengths_of, clearing_of, told_of, given_of, IsPush, VisitFinds, HoldPlaced, Placed}
use Rattle.metrics_bucket.specs.History.{HasVisit, CanLeave, Event, Runs, start}
use Rattle.metrics_bucket.specs.BucketLaw.{tickets_given, LeavesComplete, IsSound, ClearsFive, ReadsSeven, BucketLaw}
use Rattle.metrics_bucket.proofs.Sums.{total_one, total_zero, below_under, below_over}
use Rattle.metrics_bucket.proofs.Walks.{take_clean}
use Rattle.metrics_bucket.proofs.Shares.{opens, fresh, IsNew}
use Rattle.metrics_bucket.proofs.Histories.{runs_facts, new_there, total_new, one_new}
use Rattle.metrics_bucket.proofs.Placing.{total_add, own_push, own_reach, cond_same, cond_here, cond_else}
use Rattle.metrics_bucket.proofs.WipedVisits.{value_there, length_values}
use Rattle.metrics_bucket.proofs.PlacedAlways.{opens_placed, runs_placed}
use Rattle.metrics_bucket.proofs.TicketsAndTurns.{runs_given, runs_turns}

-- without a take, none reported a place
no_length : (e : ℕ) (ws : List Walk) → walks_in e ws ≡ 0 → lengths_of e ws ≡ 0
no_length e [] z = refl
no_length e (x ∷ ws) z =
    let r = no_length e ws (omega arith) in
    let one : cond (eqb e x.epoch) (length x.values) 0 ≡ 0 = cond_else e x.epoch (length x.values) (λ q. let h = cond_here e x.epoch 1 q in omega arith) in
    omega arith

no_clearing : (e epoch : ℕ) (hold : Hold) → cond (eqb e epoch) (took_in hold) 0 ≡ 0 → clearing_of e epoch hold ≡ 0
no_clearing e epoch Nothing z = refl
no_clearing e epoch (Ticket s k) z = refl
no_clearing e epoch (Written s k x) z = refl
no_clearing e epoch Claimed z = refl
no_clearing e epoch (SideKnown s) z = refl
no_clearing e epoch (Reading s visits) z = refl
no_clearing e epoch (Clearing s visits) z = cond_else e epoch (length visits) (λ q. let h = cond_here e epoch 1 q in omega arith)
no_clearing e epoch (Settling s xs) z = refl

none_told : (e : ℕ) (v : View) → takes_in e v ≡ 0 → told_of e v ≡ 0
none_told e v z = let a = no_length e v.taken (omega arith) in let b = no_clearing e v.epoch v.hold (omega arith) in omega arith

all_told : (e : ℕ) (vs : List View) → total (takes_in e) vs ≡ 0 → total (told_of e) vs ≡ 0
all_told e [] z = refl
all_told e (v ∷ vs) z = let a = none_told e v (omega arith) in let b = all_told e vs (omega arith) in omega arith

rest_told : (e : ℕ) (vs : List View) (j : ℕ) (v : View) → get_elem? vs j ≡ some v → total (takes_in e) vs ≡ takes_in e v → total (told_of e) vs ≡ told_of e v
rest_told e [] j v at s = absurd (some-ne-none v (sym at))
rest_told e (u ∷ vs) zero v at s =
    let is : u ≡ v = some-injective u v at in
    let a : takes_in e u ≡ takes_in e v = ap (takes_in e) is in
    let b : told_of e u ≡ told_of e v = ap (told_of e) is in
    let n = all_told e vs (omega arith) in
    omega arith
rest_told e (u ∷ vs) (suc j) v at s =
    let o = total_one (takes_in e) vs j v at in
    let a = none_told e u (omega arith) in
    let r = rest_told e vs j v at (omega arith) in
    omega arith

-- the place of a push is one of the places
push_room : (places all : ℕ) (w : BucketState) → Facts places all w → Placed places w → (j n : ℕ) (v : View) (q : Push) → get_elem? w.views j ≡ some v → get_elem? v.pushed n ≡ some q → q.place < places
push_room places all w f p j n v q at there =
    let e : ℕ = q.epoch in
    let i : ℕ = q.place in
    let own = (own_push places w p j v n q at there).0 in
    let parts = total_add (pushed_at e i) (λ z. held_in e i z.epoch z.hold) w.views in
    let t = p.tickets e i in
    let given : i < given_of e w = dite (dec_le (given_of e w) i) (λ l. let b = below_over i (given_of e w) l in absurd (omega arith)) (λ l. omega arith) in
    let told = p.room e in
    let room = f.room in
    dite (ℕ_discrete e w.epoch)
    (λ q. let z = p.told e (omega arith) in let c = cond_here e w.epoch w.given q in omega arith)
    (λ q. let c = cond_else e w.epoch w.given q in omega arith)

visits_marked : (places all : ℕ) (w : BucketState) (weight : ℕ) (hold : Hold) → HoldFits places all w weight hold → (i : ℕ) → HasVisit hold i Marked → get_or w.marks (place_index places (side_of hold) i) 0 ≡ 1
visits_marked places all w weight (Reading s visits) h i c = h.2 i Marked c
visits_marked places all w weight (Clearing s visits) h i c = h.2 i Marked c
visits_marked places all w weight Nothing h i c = absurd c
visits_marked places all w weight (Ticket s k) h i c = absurd c
visits_marked places all w weight (Written s k x) h i c = absurd c
visits_marked places all w weight Claimed h i c = absurd c
visits_marked places all w weight (SideKnown s) h i c = absurd c
visits_marked places all w weight (Settling s xs) h i c = absurd c

side_known_weighs : (places all : ℕ) (w : BucketState) (j : ℕ) (v : View) (s : ℕ) → Facts places all w → get_elem? w.views j ≡ some v → v.hold ≡ SideKnown s → 0 < v.weight
side_known_weighs places all w j v s f there e = dite (ℕ_discrete v.weight 0) (λ none_left. let a : turn_in v.hold ≡ 0 = ap turn_in ((f.each j v there).idle none_left).3 in let b : turn_in v.hold ≡ 1 = ap turn_in e in absurd (omega arith)) (λ some_left. omega arith)

-- what holds after each history from threads that have nothing
module _ (places all : ℕ) (views : List View) (sum : total weight_of views ≡ all) (new : (j : ℕ) (v : View) → get_elem? views j ≡ some v → IsNew places v) (history : List Event) (w : BucketState) (r : Runs places all (fresh places views) history w) where
  f0 : Facts places all (fresh places views)
  f0 = opens places all views sum new

  p0 : Placed places (fresh places views)
  p0 = opens_placed places views new

  f : Facts places all w
  f = runs_facts places all (fresh places views) history w f0 r

  p : Placed places w
  p = runs_placed places all (fresh places views) history w f0 p0 r

  given : (e : ℕ) → given_of e w ≡ tickets_given e 0 history
  given e = let a = runs_given places all (fresh places views) history w f0 p0 r e in let b = p0.told e (omega arith) in let c = cond_same e 0 0 in omega arith

  leaves_complete : LeavesComplete history w
  leaves_complete j s v visits at hold can =
      let placed : HoldPlaced w v.epoch (Clearing s visits) = subst (HoldPlaced w v.epoch) hold (p.each j v at).hold in
      let can_leave : CanLeave (Clearing s visits) = subst CanLeave hold can in
      let e : ℕ = v.epoch in
      let before = placed.0 in
      let once = p.once e in
      let one = below_under e w.epoch (omega arith) in
      let own_take : cond (eqb e v.epoch) (took_in v.hold) 0 ≡ 1 = ap (λ (n : ℕ). cond (eqb e v.epoch) n 0) (ap took_in hold) ∙ cond_here e v.epoch 1 refl in
      let most = total_one (takes_in e) w.views j v at in
      let told = rest_told e w.views j v at (omega arith) in
      let lists = no_length e v.taken (omega arith) in
      let own_told : clearing_of e v.epoch v.hold ≡ length visits = ap (clearing_of e v.epoch) hold ∙ cond_here e v.epoch (length visits) refl in
      let live : cond (eqb e w.epoch) w.given 0 ≡ 0 = cond_else e w.epoch w.given (λ q. omega arith) in
      let g = given e in
      let long = length_values visits in (
        (λ i. (left_from v (hold i)).taken),
        omega arith,
        λ i l. let c = value_there visits i l in let t = can_leave i c.0 c.1 in subst (IsPush w v.epoch i) (sym (c.2 ∙ ap value_in t.1)) (subst (VisitFinds w v.epoch i) t.1 (placed.1 i c.0 c.1)),
      )

  pub sound : IsSound places all history w
  sound = record {
    facts = f;
    tickets = λ e. ((λ i. p.tickets e i ∙ ap (below i) (given e)), p.once e);
    one_place = λ j n v q at there.
        let room = push_room places all w f p j n v q at there in
        let own = (own_push places w p j v n q at there).0 in
        let one = p.one_place q.epoch q.place room in (
          room,
          (own_reach places w p j v n q at there).1,
          omega arith,
        );
    finds = (
      (λ j v at. let k = p.each j v at in (k.taken, k.read, k.hold, visits_marked places all w v.weight v.hold (f.each j v at).hold)),
      λ j n v q at there. own_push places w p j v n q at there,
    );
    leaves = leaves_complete;
    clean = λ j v s i there e l. take_clean places all w j v f there (side_known_weighs places all w j v s f there e) s e i l;
    turns = let a = runs_turns places all (fresh places views) history w f0 p0 r in let b : walks_made (fresh places views) ≡ 0 = none_walked in omega arith;
  }
    where
      none_walked : total walks_of views ≡ 0
      none_walked = total_zero walks_of views (λ j v at. let n = (new j v at).1 in let a : length v.taken ≡ 0 = ap length n.1 in let b : length v.read ≡ 0 = ap length n.2 in omega arith)

-- the history that pushes 5 and clears
abbrev next : BucketState → View → Act → BucketState
next w v act = state_after 1 w 0 v act

five_leaves : CanLeave (Clearing 0 (Wiped 5 ∷ []))
five_leaves zero c e = (5, sym (some-injective (Wiped 5) c e))
five_leaves (suc i) c e = absurd (some-ne-none c (sym e))

clears_five : ClearsFive
clears_five =
    let v0 : View = new_view 1 1 in
    let w0 : BucketState = start 1 1 in
    let v1 : View = view_after 1 w0 v0 ticket in
    let w1 : BucketState = next w0 v0 ticket in
    let v2 : View = view_after 1 w1 v1 (write 0 0 5) in
    let w2 : BucketState = next w1 v1 (write 0 0 5) in
    let v3 : View = view_after 1 w2 v2 (finish 0 0 5) in
    let w3 : BucketState = next w2 v2 (finish 0 0 5) in
    let v4 : View = view_after 1 w3 v3 claim in
    let w4 : BucketState = next w3 v3 claim in
    let v5 : View = view_after 1 w4 v4 look_to_clear in
    let w5 : BucketState = next w4 v4 look_to_clear in
    let v6 : View = view_after 1 w5 v5 takes in
    let w6 : BucketState = next w5 v5 takes in
    let v7 : View = view_after 1 w6 v6 (see 0) in
    let w7 : BucketState = next w6 v6 (see 0) in
    let v8 : View = view_after 1 w7 v7 (read 0) in
    let w8 : BucketState = next w7 v7 (read 0) in
    let v9 : View = view_after 1 w8 v8 (wipe 0 0 5) in
    let w9 : BucketState = next w8 v8 (wipe 0 0 5) in
    let v10 : View = leaving v9 in
    let w10 : BucketState = next w9 v9 leave in (
      w10,
      (v0, refl, omega arith, (refl, omega arith), (v1, refl, omega arith, refl, (v2, refl, omega arith, refl, (v3, refl, omega arith, (refl, refl), (v4, refl, omega arith, refl, (v5, refl, omega arith, (0, refl), (v6, refl, omega arith, (refl, refl), (v7, refl, omega arith, refl, (v8, refl, omega arith, (Read 5 ∷ [], refl, refl), (v9, refl, omega arith, five_leaves, refl)))))))))),
      v10,
      refl,
      refl,
    )

-- the history of two threads, in which one reads what the other pushes
abbrev then_by : ℕ → BucketState → View → Act → BucketState
then_by by w v act = state_after 1 w by v act

seven_leaves : CanLeave (Reading 0 (Read 7 ∷ []))
seven_leaves zero c e = (7, sym (some-injective (Read 7) c e))
seven_leaves (suc i) c e = absurd (some-ne-none c (sym e))

reads_seven : ReadsSeven
reads_seven =
    let w0 : BucketState = start 1 2 in
    let v0 : View = new_view 1 1 in
    let u0 : View = new_view 1 1 in
    let v1 : View = view_after 1 w0 v0 ticket in
    let w1 : BucketState = then_by 0 w0 v0 ticket in
    let u1 : View = view_after 1 w1 u0 claim in
    let w2 : BucketState = then_by 1 w1 u0 claim in
    let u2 : View = view_after 1 w2 u1 look_to_read in
    let w3 : BucketState = then_by 1 w2 u1 look_to_read in
    let v2 : View = view_after 1 w3 v1 (write 0 0 7) in
    let w4 : BucketState = then_by 0 w3 v1 (write 0 0 7) in
    let v3 : View = view_after 1 w4 v2 (finish 0 0 7) in
    let w5 : BucketState = then_by 0 w4 v2 (finish 0 0 7) in
    let u3 : View = view_after 1 w5 u2 (see 0) in
    let w6 : BucketState = then_by 1 w5 u2 (see 0) in
    let u4 : View = view_after 1 w6 u3 (read 0) in
    let w7 : BucketState = then_by 1 w6 u3 (read 0) in
    let v4 : View = view_after 1 w7 v3 look_at_turn in
    let w8 : BucketState = then_by 0 w7 v3 look_at_turn in
    let u5 : View = leaving u4 in
    let w9 : BucketState = then_by 1 w8 u4 leave in (
      w9,
      (v0, refl, omega arith, (refl, omega arith), (u0, refl, omega arith, (refl, refl), (u1, refl, omega arith, refl, (v1, refl, omega arith, refl, (v2, refl, omega arith, refl, (u2, refl, omega arith, (refl, refl), (u3, refl, omega arith, refl, (v3, refl, omega arith, refl, (u4, refl, omega arith, seven_leaves, refl))))))))),
      v4,
      u5,
      refl,
      refl,
      (refl, refl),
    )

pub law : BucketLaw
law = (
  (λ places threads history w r. sound places threads (replicate threads (new_view places 1)) (total_new places threads) (new_there places threads) history w r),
  (λ places history w r. sound places 1024 (whole_view places ∷ []) (omega arith) (one_new places 1024) history w r),
  clears_five,
  reads_seven,
)
