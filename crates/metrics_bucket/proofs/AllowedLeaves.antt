-- What the rule allows the steps that return the turn.
use Rattle.std.proofs.Common.{Bool, ◌≡◌, ℕ, zero, suc, ◌+◌, ◌<◌, ◌≤◌, List, [], ◌∷◌, get_or, set, take, drop, refl, sym, ap, ◌∙◌, subst, arith}
use mathlib.Core.Option.{none, some}
use lib.ListN.{get_elem?}
use Rattle.atomic_table.specs.Table.{step, gives, rest as slots_rest, homes_after, Allows}
use Rattle.atomic_table.proofs.Lists.{set_here}
use Rattle.metrics_bucket.specs.declared.view.View.{View}
use Rattle.metrics_bucket.specs.declared.view.Turn.{Turn}
use Rattle.metrics_bucket.specs.declared.view.Hold.{Hold}
use Rattle.metrics_bucket.specs.declared.view.Hold.TheVariants.{Nothing, Ticket, Written, Claimed, SideKnown, Reading, Clearing, Settling}
use Rattle.metrics_bucket.specs.declared.view.Visit.{Visit}
use Rattle.metrics_bucket.specs.BucketState.{BucketState, base, place_index, live_values, walks_of, walks_made, holding, leaving, left_from, value_in, values_in, leave, quit, state_after}
use Rattle.metrics_bucket.specs.Facts.{weigh, weigh_pushes, weigh_walks, VisitFits, HoldFits, Facts}
use Rattle.metrics_bucket.specs.Steps.{Seated}
use Rattle.metrics_bucket.specs.History.{CanLeave, CanQuit, turn_at, at_home, homes_of, FollowsHistory}
use Rattle.metrics_bucket.specs.WalkSteps.{turn_left, turn_given_back, IsClearing}
use Rattle.metrics_bucket.proofs.Sums.{total_set}
use Rattle.metrics_bucket.proofs.Keep.{at_below}
use Rattle.metrics_bucket.proofs.Visits.{values_are}
use Rattle.metrics_bucket.proofs.Leaving.{learns}
use Rattle.metrics_bucket.proofs.Histories.{step_facts, facts}
use Rattle.metrics_bucket.proofs.Allowed.{known_all, TableState, moved_by, seated}
use Rattle.metrics_bucket.proofs.PlacedAlways.{placed}
use Rattle.metrics_bucket.proofs.TicketsAndTurns.{walks_left, turn_quit}
use Rattle.metrics_bucket.proofs.Covering.{finds}

left_same : (v : View) (hold : Hold) → IsClearing hold → ((left_from v hold).hold ≡ Nothing) × ((left_from v hold).weight ≡ v.weight) × ((left_from v hold).pushed ≡ v.pushed)
left_same v (Clearing s visits) c = (refl, refl, refl)
left_same v (Reading s visits) c = absurd c
left_same v Nothing c = absurd c
left_same v (Ticket s i) c = absurd c
left_same v (Written s i x) c = absurd c
left_same v Claimed c = absurd c
left_same v (SideKnown s) c = absurd c
left_same v (Settling s xs) c = absurd c

clear_given : (places all : ℕ) (w : BucketState) (weight : ℕ) (hold : Hold) → HoldFits places all w weight hold → IsClearing hold → weight ≡ all → w.given ≡ 0
clear_given places all w weight (Clearing s visits) h c whole = h.3 whole
clear_given places all w weight (Reading s visits) h c whole = absurd c
clear_given places all w weight Nothing h c whole = absurd c
clear_given places all w weight (Ticket s i) h c whole = absurd c
clear_given places all w weight (Written s i x) h c whole = absurd c
clear_given places all w weight Claimed h c whole = absurd c
clear_given places all w weight (SideKnown s) h c whole = absurd c
clear_given places all w weight (Settling s xs) h c whole = absurd c

-- the slot of the turn comes home with its walks
comes_home : (w : BucketState) (s : TableState) (cs : List (ℕ × Turn)) (n made : ℕ) → cs ≡ (0, turn_at n) ∷ [] → made ≡ n → homes_of w ≡ s.homes → at_home 0 made ∷ [] ≡ homes_after s.homes cs gives
comes_home w s cs n made out is home =
    (λ j. some (turn_at (is j)) ∷ [])
    ∙ ((λ j. set (home j) 0 (some (turn_at n)))
    ∙ sym (ap (λ (l : List (ℕ × Turn)). homes_after s.homes l gives) out))

module _ (places : ℕ) (many : Bool) where
  pub quits_turn : (slots id : ℕ) (me : Seated) → 0 < me.0.weight → CanQuit me.0.hold → me.1 ≡ (0, turn_at me.0.turn) ∷ [] → Allows (FollowsHistory places many) slots id me 1 (λ _. 0) (λ _. turn_given_back (step slots 1 0 0 none) me 0)
  quits_turn slots id me has can out s k _ at _ =
      let w : BucketState = k.1 in
      let u : View = holding me.0 Nothing in
      let there = seated places many s k id me.0 at in
      let n = turn_quit me.0.hold can in
      let known : me.0.turn ≡ walks_made w = ((placed places many s k).each id me.0 there).turn n in
      let made : walks_made (state_after places w id me.0 quit) ≡ me.0.turn = (let y = total_set walks_of w.views id me.0 u there in omega arith) in (
        u,
        gives,
        tt,
        moved_by places many s k 1 0 id me.1 me.0 u quit gives there has can refl refl (comes_home w s me.1 me.0.turn _ out made k.5) (λ _. tt),
        ap (λ (l : List (ℕ × Turn)). (u, slots_rest l)) out,
      )

  pub leaves_turn : (slots id : ℕ) (me : Seated) → 0 < me.0.weight → CanLeave me.0.hold → me.1 ≡ (0, turn_at (me.0.turn + 1)) ∷ [] → Allows (FollowsHistory places many) slots id me 1 (λ _. 0) (λ _. turn_left (step slots 1 0 0 none) me 0)
  leaves_turn slots id me has can out s k _ at _ =
      let w : BucketState = k.1 in
      let there = seated places many s k id me.0 at in
      let n = walks_left me.0 me.0.hold can in
      let known : me.0.turn ≡ walks_made w = ((placed places many s k).each id me.0 there).turn n.0 in
      let more : walks_of (leaving me.0) ≡ walks_of me.0 + 1 = n.1 in
      let made : walks_made (state_after places w id me.0 leave) ≡ me.0.turn + 1 = (let y = total_set walks_of w.views id me.0 (leaving me.0) there in omega arith) in
      let f' = step_facts places k.2.0 w id me.0 (facts places many s k) there has leave can in (
        leaving me.0,
        gives,
        tt,
        moved_by places many s k 1 0 id me.1 me.0 (leaving me.0) leave gives there has can refl refl (comes_home w s me.1 (me.0.turn + 1) _ out made k.5) (λ _. tt),
        (
          ap (λ (l : List (ℕ × Turn)). (leaving me.0, slots_rest l)) out,
          (λ whole clearing h. everything k.2.0 w (known_all places many s k id me.0 at whole) ((facts places many s k).each id me.0 there).hold clearing h (set_here w.views id (leaving me.0) (at_below w.views id me.0 there)) f'),
          (λ whole side visits e h. all_read k.2.0 w (known_all places many s k id me.0 at whole) has side visits e ((facts places many s k).each id me.0 there).hold (facts places many s k) (subst CanLeave e can) h (set_here w.views id (leaving me.0) (at_below w.views id me.0 there)) f'),
          finds places k.2.0 w id me.0 (facts places many s k) (placed places many s k) there has me.0.hold refl can,
        ),
      )
    where
      -- when a whole thread's clear leaves, nothing is left
      everything : (all : ℕ) (w : BucketState) → me.0.weight ≡ all → HoldFits places all w me.0.weight me.0.hold → IsClearing me.0.hold → (h : ℕ → ℕ) → get_elem? (set w.views id (leaving me.0)) id ≡ some (leaving me.0)
          → Facts places all (state_after places w id me.0 leave) → weigh_pushes h me.0.pushed ≡ weigh_walks h (leaving me.0).taken
      everything all w whole fits clearing h there f =
          let l = left_same me.0 me.0.hold clearing in
          let none = clear_given places all w me.0.weight me.0.hold fits clearing whole in
          let heavy : (leaving me.0).weight ≡ all = l.1 ∙ whole in
          let some_weight : 0 < (leaving me.0).weight = omega arith in
          let b = learns places all (state_after places w id me.0 leave) id (leaving me.0) f there some_weight heavy l.0 h in
          let empty : weigh h (live_values places (state_after places w id me.0 leave)) ≡ 0 = (λ i. weigh h (take (none i) (drop (base places w.live) w.values))) in
          let same : weigh_pushes h (leaving me.0).pushed ≡ weigh_pushes h me.0.pushed = ap (weigh_pushes h) l.2 in
          omega arith

      side_low : (s : ℕ) → base places s ≤ places
      side_low zero = omega arith
      side_low (suc s) = omega arith

      -- a whole thread's reading walk has read all that was pushed and not taken
      all_read : (all : ℕ) (w : BucketState) → me.0.weight ≡ all → 0 < me.0.weight → (side : ℕ) (visits : List Visit) → me.0.hold ≡ Reading side visits → HoldFits places all w me.0.weight me.0.hold → Facts places all w → CanLeave (Reading side visits) → (h : ℕ → ℕ)
          → get_elem? (set w.views id (leaving me.0)) id ≡ some (leaving me.0) → Facts places all (state_after places w id me.0 leave) → weigh_pushes h me.0.pushed ≡ weigh h (values_in visits) + weigh_walks h me.0.taken
      all_read all w whole has side visits e fits0 f0 can_leave h there f =
          let fits : HoldFits places all w me.0.weight (Reading side visits) = subst (HoldFits places all w me.0.weight) e fits0 in
          let v : View = left_from me.0 (Reading side visits) in
          let is : leaving me.0 ≡ v = ap (left_from me.0) e in
          let heavy : (leaving me.0).weight ≡ all = ap (λ (z : View). z.weight) is ∙ whole in
          let some_weight : 0 < (leaving me.0).weight = omega arith in
          let b = learns places all (state_after places w id me.0 leave) id (leaving me.0) f there some_weight heavy (ap (λ (z : View). z.hold) is) h in
          let pushed : weigh_pushes h (leaving me.0).pushed ≡ weigh_pushes h me.0.pushed = ap (λ (z : View). weigh_pushes h z.pushed) is in
          let taken : weigh_walks h (leaving me.0).taken ≡ weigh_walks h me.0.taken = ap (λ (z : View). weigh_walks h z.taken) is in
          let n = fits.3 whole in
          let long = f0.values_long in
          let room = f0.room in
          let low = side_low side in
          let found : (i : ℕ) (c : Visit) → get_elem? visits i ≡ some c → get_or w.values (base places side + i) 0 ≡ value_in c =
          λ i c at_i. let t = can_leave i c at_i in (subst (VisitFits (get_or w.marks (place_index places side i) 0) (get_or w.values (place_index places side i) 0)) t.1 (fits.2 i c at_i)).1 ∙ sym (ap value_in t.1)
          in
          let all = values_are w.values (base places side) visits (omega arith) found in
          let same : weigh h (values_in visits) ≡ weigh h (live_values places (state_after places w id me.0 leave)) = ap (weigh h) (all ∙ (λ i. take (n i) (drop (base places (fits.0 i)) w.values))) in
          omega arith
