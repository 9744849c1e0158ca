-- What the words of a running table know of the marks.
use Rattle.std.proofs.Common.{◌≡◌, ℕ, zero, suc, ◌+◌, ◌<◌, ◌≤◌, cond, List, [], ◌∷◌, length, get_or, set, refl, sym, ap, ◌∙◌, subst, arith, eq-eqb, length-set, get_or-set_same, get_or-set_other}
use mathlib.Core.Logic.{dite}
use mathlib.Core.Option.{some, some-injective}
use native.Mathlib.Decide.{ℕ_discrete, dec_le}
use lib.ListN.{get_elem?}
use Rattle.metrics_bucket.specs.declared.view.View.{View}
use Rattle.metrics_bucket.specs.declared.view.Hold.TheVariants.{Clearing}
use Rattle.metrics_bucket.specs.declared.view.Visit.{Visit}
use Rattle.metrics_bucket.specs.BucketState.{BucketState, place_index, side_marks}
use Rattle.metrics_bucket.specs.Facts.{open_at, owed_in, owed_at, turn_in, HoldFits, Facts}
use Rattle.metrics_bucket.proofs.Sums.{total_zero, index_apart, index_below, given_else}
use Rattle.metrics_bucket.proofs.Keep.{other_side, owed_le, due_le, turn_alone}
use Rattle.metrics_bucket.proofs.Packed.{side_mark, side_past}

open_past : (visits : List Visit) (i : ℕ) → length visits ≤ i → open_at visits i ≡ 0
open_past [] i l = refl
open_past (c ∷ cs) zero l = absurd (omega arith)
open_past (c ∷ cs) (suc i) l = open_past cs i (omega arith)

module _ (places all : ℕ) (w : BucketState) (f : Facts places all w) where
  pub mark_le : (s i : ℕ) → s < 2 → get_or (side_marks places s w.marks) i 0 ≤ 1
  mark_le s i a = dite (dec_le places i)
      (λ past. let e = side_past places s w.marks i past in omega arith)
      (λ inside. let e = side_mark places s w.marks i (omega arith) in let d = due_le places all w f s i in let g = f.even s i a (omega arith) in omega arith)

  -- no mark is past the places that a clear took
  pub clean : (id : ℕ) (v : View) (s i : ℕ) (visits : List Visit) → get_elem? w.views id ≡ some v → v.hold ≡ Clearing s visits → length visits ≤ i → i < places → get_or w.marks (place_index places s i) 0 ≡ 0
  clean id v s i visits at e past inside =
      let fits : HoldFits places all w v.weight (Clearing s visits) = subst (HoldFits places all w v.weight) e (f.each id v at).hold in
      let o = other_side w.live f.side in
      let s2 : s < 2 = subst (λ (z : ℕ). z < 2) (sym fits.0) o.0 in
      let g = f.even s i s2 inside in
      let live = given_else w.live w.given s i (λ z. o.1 (sym z ∙ fits.0)) in
      let mine : owed_at s i v ≡ 0 = ap (owed_in s i) e ∙ dite (ℕ_discrete s s) (λ q. ap (λ c. cond c (open_at visits i) 0) (eq-eqb s s q) ∙ open_past visits i past) (λ n. absurd (n refl)) in
      let owed = total_zero (owed_at s i) w.views (λ j u there. dite (ℕ_discrete j id)
      (λ here. ap (owed_at s i) (same_view j u there here) ∙ mine)
      (λ apart. let a = turn_alone places all w f id v at (ap turn_in e) j u apart there in let b = owed_le s i u.hold in omega arith)) in
      omega arith
    where
      same_view : (j : ℕ) (u : View) → get_elem? w.views j ≡ some u → j ≡ id → u ≡ v
      same_view j u there here = sym (some-injective v u (sym at ∙ (ap (λ (n : ℕ). get_elem? w.views n) (sym here) ∙ there)))

-- so many places of a side are wiped, from this one on
abbrev pub wiped_from : ℕ → ℕ → ℕ → ℕ → List ℕ → List ℕ
wiped_from places s start zero marks = marks
wiped_from places s start (suc n) marks = set (wiped_from places s start n marks) (place_index places s (start + n)) 0

pub wiped_long : (places s start n : ℕ) (marks : List ℕ) → length (wiped_from places s start n marks) ≡ length marks
wiped_long places s start zero marks = refl
wiped_long places s start (suc n) marks = length-set (wiped_from places s start n marks) (place_index places s (start + n)) 0 ∙ wiped_long places s start n marks

module _ (places s start : ℕ) (marks : List ℕ) (side : s < 2) (long : length marks ≡ places + places) where
  pub wiped_else : (n t i : ℕ) → start + n ≤ places → t < 2 → i < places → (t ≡ s → start ≤ i → i < start + n → ⊥) → get_or (wiped_from places s start n marks) (place_index places t i) 0 ≡ get_or marks (place_index places t i) 0
  wiped_else zero t i l a b apart = refl
  wiped_else (suc n) t i l a b apart =
      get_or-set_other (wiped_from places s start n marks) (place_index places s (start + n)) (place_index places t i) 0 0 (index_apart places t i s (start + n) a side b (omega arith) (λ p q. apart p (omega arith) (omega arith)))
      ∙ wiped_else n t i (omega arith) a b (λ p q r. apart p q (omega arith))

  pub wiped_here : (n i : ℕ) → start + n ≤ places → start ≤ i → i < start + n → get_or (wiped_from places s start n marks) (place_index places s i) 0 ≡ 0
  wiped_here zero i l a b = absurd (omega arith)
  wiped_here (suc n) i l a b =
      let before : List ℕ = wiped_from places s start n marks in
      dite (ℕ_discrete i (start + n))
      (λ here. let size = wiped_long places s start n marks in let below = index_below places s (start + n) (omega arith) in
      ap (λ (z : ℕ). get_or (set before (place_index places s (start + n)) 0) (place_index places s z) 0) here ∙ get_or-set_same before (place_index places s (start + n)) 0 0 (omega arith))
      (λ apart. get_or-set_other before (place_index places s (start + n)) (place_index places s i) 0 0 (index_apart places s i s (start + n) side side (omega arith) (omega arith) (λ _ q. apart q))
      ∙ wiped_here n i (omega arith) a (omega arith))
