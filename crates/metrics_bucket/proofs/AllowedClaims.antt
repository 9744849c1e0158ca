-- What the rule allows the steps that claim the turn and look at the sides.
use Rattle.std.proofs.Common.{Bool, true, ◌≡◌, ℕ, zero, suc, ◌+◌, ◌*◌, ◌/◌, ◌%◌, ◌<◌, ◌≤◌, eqb, List, [], ◌∷◌, ◌++◌, get_or, set, replicate, refl, sym, ap, ◌∙◌, subst, arith, eq-eqb, ne_eqb}
use mathlib.Core.Logic.{dite}
use mathlib.Core.Option.{Option, none, some}
use native.Mathlib.Decide.{ℕ_discrete}
use lib.ListN.{get_elem?}
use lib.Seq.{set-get_or}
use prog.Atomic.{either}
use Rattle.atomic_table.specs.Table.{step, keeps, takes as takes_slot, stepped, Allows}
use Rattle.metrics_bucket.specs.declared.view.View.{View}
use Rattle.metrics_bucket.specs.declared.view.Turn.{Turn}
use Rattle.metrics_bucket.specs.declared.view.Hold.{Hold}
use Rattle.metrics_bucket.specs.declared.view.Hold.TheVariants.{Nothing, Claimed, SideKnown, Reading, Clearing}
use Rattle.metrics_bucket.specs.declared.view.Visit.TheVariants.{Unseen}
use Rattle.metrics_bucket.specs.BucketState.{BucketState, other, packed, words_of, walks_of, walks_made, holding, holding_at, claiming, finding_held, Act, claim, look_at_turn, look_to_read, look_to_clear, takes, state_after}
use Rattle.metrics_bucket.specs.Facts.{took_in, HoldFits}
use Rattle.metrics_bucket.specs.Steps.{Seated}
use Rattle.metrics_bucket.specs.History.{May, IsPlain, turn_at, at_home, FollowsHistory}
use Rattle.metrics_bucket.specs.WalkSteps.{turn_claimed, reading_looked, clear_looked, side_taken}
use Rattle.metrics_bucket.proofs.Sums.{total_set}
use Rattle.metrics_bucket.proofs.Leaving.{whole_turn}
use Rattle.metrics_bucket.proofs.Histories.{facts}
use Rattle.metrics_bucket.proofs.Allowed.{known_all, TableState, moved, moved_by, control, seated}
use Rattle.metrics_bucket.proofs.PlacedAlways.{placed}
use Rattle.metrics_bucket.proofs.Covering.{reaches, whole_epoch}
use Rattle.metrics_bucket.specs.Places.{Placed, Reaches}

-- a turn that isn't free is held
held : (x : ℕ) → x ≤ 1 → (x ≡ 0 → ⊥) → x ≡ 1
held zero most not = absurd (not refl)
held (suc x) most not = omega arith

module _ (places : ℕ) (many : Bool) where
  turn_word : (s : TableState) (k : FollowsHistory places many s) → get_or s.words 1 0 ≡ k.1.turn
  turn_word s k = sym (ap (λ (l : List ℕ). get_or l 1 0) k.3)

  -- a step that writes back what it found, by the state after it
  pub same_words : (s : TableState) (k : FollowsHistory places many s) (i id : ℕ) (cs : List (ℕ × Turn)) (v u : View) (act : Act) → get_elem? k.1.views id ≡ some v → 0 < v.weight → May places k.2.0 k.1 id v act
      → words_of places (state_after places k.1 id v act) ≡ words_of places k.1 → (state_after places k.1 id v act).views ≡ set k.1.views id u → walks_of u ≡ walks_of v → (state_after places k.1 id v act).turn ≡ k.1.turn → (many ≡ true → IsPlain act)
      → FollowsHistory places many (stepped s i (get_or s.words i 0) id cs u keeps)
  same_words s k i id cs v u act there has may words views walks turn plain =
      moved places many s k i (get_or s.words i 0) id cs v u act there has may (words ∙ (k.3 ∙ (sym (set-get_or s.words i 0) ∙ sym (ap (λ (l : List ℕ). set l i (get_or s.words i 0)) k.3)))) views walks turn plain

  pub claims_turn : (slots id : ℕ) (me : Seated) → 0 < me.0.weight → me.0.hold ≡ Nothing → me.1 ≡ [] → Allows (FollowsHistory places many) slots id me 1 (λ n. either (eqb n 0) 1 n) (turn_claimed (step slots 1 0 1 none) me)
  claims_turn slots id me has free bare s k _ at _ =
      let x : ℕ = get_or s.words 1 0 in
      let w : BucketState = k.1 in
      let t = turn_word s k in
      let there = seated places many s k id me.0 at in
      let sole : me.0.weight ≡ 1024 → x ≡ 0 = λ whole. t ∙ whole_turn places k.2.0 w id me.0 (facts places many s k) there has (known_all places many s k id me.0 at whole) free in
      dite (ℕ_discrete x 0)
      (λ hit.
      let n : ℕ = walks_made w in
      let u : View = claiming me.0 n in
      let is_free : w.turn ≡ 0 = sym t ∙ hit in
      let home : s.homes ≡ some (turn_at n) ∷ [] = sym k.5 ∙ (λ j. at_home (is_free j) n ∷ []) in
      let made : walks_made (state_after places w id me.0 claim) ≡ n = (let y = total_set walks_of w.views id me.0 u there in omega arith) in (
        u,
        takes_slot 0 (turn_at n),
        ap (λ (l : List (Option Turn)). get_elem? l 0) home,
        subst (λ b. FollowsHistory places many (stepped s 1 (either b 1 x) id me.1 u (takes_slot 0 (turn_at n)))) (sym (eq-eqb x 0 hit))
            (moved_by places many s k 1 1 id me.1 me.0 u claim (takes_slot 0 (turn_at n)) there has (free, is_free) refl refl (sym (ap (λ (l : List (Option Turn)). set l 0 none) home)) (λ _. tt)),
        ((λ _. (n, λ j. (u, (0, turn_at n) ∷ bare j))), (λ not. absurd (not hit)), sole),
      ))
      (λ miss.
      let one : x ≡ 1 = held x (let a = (facts places many s k).one_turn in omega arith) miss in (
        finding_held me.0,
        keeps,
        tt,
        subst (λ b. FollowsHistory places many (stepped s 1 (either b 1 x) id me.1 (finding_held me.0) keeps)) (sym (ne_eqb x 0 miss))
            (same_words s k 1 id me.1 me.0 (finding_held me.0) look_at_turn there has (sym t ∙ one) refl refl refl refl (λ _. tt)),
        ((λ hit. absurd (miss hit)), (λ _. refl), sole),
      ))

  pub surveys_side : (slots id : ℕ) (me : Seated) → 0 < me.0.weight → me.0.hold ≡ Claimed → Allows (FollowsHistory places many) slots id me 0 (λ n. n) (reading_looked (step slots 0 0 0 none) me)
  surveys_side slots id me has e s k _ at _ =
      let x : ℕ = get_or s.words 0 0 in
      let w : BucketState = k.1 in
      let c = control places many s k in
      let side = (facts places many s k).side in
      let room = (facts places many s k).room in
      let there = seated places many s k id me.0 at in
      let size = ((facts places many s k).each id me.0 there).size has in
      let u : View = holding_at me.0 w.epoch (Reading w.live (replicate w.given Unseen)) in
      let u' : View = holding_at me.0 w.epoch (Reading (x % 2) (replicate (x / 2) Unseen)) in
      let is : u ≡ u' = (let a : w.live ≡ x % 2 = omega arith in let b : w.given ≡ x / 2 = omega arith in λ i. holding_at me.0 w.epoch (Reading (a i) (replicate (b i) Unseen))) in
      let b : w.given ≡ x / 2 = omega arith in
      let p : Placed places w = placed places many s k in (
        u',
        keeps,
        tt,
        subst (λ (z : View). FollowsHistory places many (stepped s 0 x id me.1 z keeps)) is (same_words s k 0 id me.1 me.0 u look_to_read there has e refl refl refl refl (λ _. tt)),
        (w.epoch, refl, omega arith, subst (Reaches me.0.pushed w.epoch) b (reaches places k.2.0 w id me.0 (facts places many s k) p there has), λ whole. whole_epoch places k.2.0 w id me.0 (facts places many s k) p there has (known_all places many s k id me.0 at whole) (ap took_in e)),
      )

  pub aims_side : (slots id : ℕ) (me : Seated) → 0 < me.0.weight → me.0.hold ≡ Claimed → Allows (FollowsHistory places many) slots id me 0 (λ n. n) (clear_looked (step slots 0 0 0 none) me)
  aims_side slots id me has e s k _ at _ =
      let x : ℕ = get_or s.words 0 0 in
      let w : BucketState = k.1 in
      let c = control places many s k in
      let side = (facts places many s k).side in
      let there = seated places many s k id me.0 at in
      let u : View = holding me.0 (SideKnown w.live) in
      let u' : View = holding me.0 (SideKnown (x % 2)) in
      let is : u ≡ u' = (let a : w.live ≡ x % 2 = omega arith in λ i. holding me.0 (SideKnown (a i))) in (
        u',
        keeps,
        tt,
        subst (λ (z : View). FollowsHistory places many (stepped s 0 x id me.1 z keeps)) is (same_words s k 0 id me.1 me.0 u look_to_clear there has e refl refl refl refl (λ _. tt)),
        refl,
      )

  -- the swap is to the other side, with no tickets
  pub takes_all : (slots id : ℕ) (me : Seated) (s new : ℕ) → 0 < me.0.weight → me.0.hold ≡ SideKnown s → new ≡ other s → Allows (FollowsHistory places many) slots id me 0 (λ _. new) (side_taken (step slots 0 new 0 none) me)
  takes_all slots id me s new has e is st k _ at _ =
      let x : ℕ = get_or st.words 0 0 in
      let w : BucketState = k.1 in
      let c = control places many st k in
      let side = (facts places many st k).side in
      let room = (facts places many st k).room in
      let there = seated places many st k id me.0 at in
      let size = ((facts places many st k).each id me.0 there).size has in
      let known : s ≡ w.live = subst (HoldFits places k.2.0 w me.0.weight) e ((facts places many st k).each id me.0 there).hold in
      let u : View = holding_at me.0 w.epoch (Clearing w.live (replicate w.given Unseen)) in
      let u' : View = holding_at me.0 w.epoch (Clearing s (replicate (x / 2) Unseen)) in
      let b : w.given ≡ x / 2 = omega arith in
      let p : Placed places w = placed places many st k in
      let same : u ≡ u' = (let b : w.given ≡ x / 2 = omega arith in λ i. holding_at me.0 w.epoch (Clearing (sym known i) (replicate (b i) Unseen))) in
      let word : 2 * 0 + other w.live ≡ new = (let z : 2 * 0 + other w.live ≡ other w.live = omega arith in z ∙ (ap other (sym known) ∙ sym is)) in (
        u',
        keeps,
        tt,
        subst (λ (z : View). FollowsHistory places many (stepped st 0 new id me.1 z keeps)) same
            (moved places many st k 0 new id me.1 me.0 u takes there has (s, e) (λ i. word i ∷ w.turn ∷ (w.values ++ packed places w.marks)) refl refl refl (λ _. tt)),
        λ s' e'. (
          w.epoch,
          (λ i. (holding_at me.0 w.epoch (Clearing (ap side_known (sym e ∙ e') i) (replicate (x / 2) Unseen)), me.1)),
          omega arith,
          subst (Reaches me.0.pushed w.epoch) b (reaches places k.2.0 w id me.0 (facts places many st k) p there has),
          λ whole. whole_epoch places k.2.0 w id me.0 (facts places many st k) p there has (known_all places many st k id me.0 at whole) (ap took_in e),
        ),
      )
    where
      side_known : Hold → ℕ
      side_known (SideKnown s) = s
      side_known hold = 0
