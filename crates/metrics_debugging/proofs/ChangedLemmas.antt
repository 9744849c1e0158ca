-- A change of one cell keeps the agreement, and changes one series.
use Rattle.std.proofs.Common.{◌≡◌, ℕ, zero, suc, ◌+◌, ◌≤◌, Bool, true, cond, List, [], ◌∷◌, length, map, set, Some, Result, Ok, Err, refl, ap, sym, ◌∙◌, subst, arith, add-one, slice_get, option_map}
use Rattle.std.specs.Prelude.{MatchResult}
use Rattle.metrics_names.specs.declared.kind.MetricKind.{MetricKind}
use Rattle.metrics_names.specs.declared.refused.Refused.{Refused}
use Rattle.metrics_names.specs.declared.refused.Refused.TheVariants.{Memory, NoSuchAddress, NoSuchBook, BadHandle}
use Rattle.metrics_names.specs.Names.{kind_eq}
use Rattle.metrics.specs.declared.debugging.DebugValue.{DebugValue}
use Rattle.metrics.specs.declared.debugging.Reset.{Reset}
use Rattle.metrics.specs.declared.handles.Update.{Update}
use Rattle.metrics.specs.Book.{Series, new_series, new_value, kind_of, with_update, resets, after_reset, active_at}
use Rattle.metrics.specs.Meaning.{is_kind}
use Rattle.metrics.specs.Targets.{change_at}
use Rattle.metrics_debugging.specs.declared.debugging.series.Stored.{Stored}
use Rattle.metrics_debugging.specs.DebuggingCells.{value_of, kind_of_value, UpdatesValue}
use Rattle.metrics_debugging.specs.DebuggingSeries.{Numbers, spot, key_at, series_at, all_series, is_active, Agrees}
use Rattle.metrics_debugging.specs.DebuggingUpdates.{UpdatesAt, is_held}
use Rattle.metrics_debugging.proofs.AgreesLemmas.{by_test, kinds-order}

-- ---- lists

module _ {A : Type 0} where
  -- f of the first n
  abbrev pub first-changed : ℕ → (A → A) → List A → List A
  first-changed zero f xs = xs
  first-changed (suc n) f [] = []
  first-changed (suc n) f (x ∷ xs) = f x ∷ first-changed n f xs

  first-suc : (i : ℕ) (f : A → A) (xs : List A) → change_at i f (first-changed i f xs) ≡ first-changed (suc i) f xs
  first-suc zero f [] = refl
  first-suc zero f (x ∷ xs) = refl
  first-suc (suc i) f [] = refl
  first-suc (suc i) f (x ∷ xs) = ap (λ ys. f x ∷ ys) (first-suc i f xs)

  pub first-more : (i : ℕ) (f : A → A) (xs : List A) → change_at i f (first-changed i f xs) ≡ first-changed (i + 1) f xs
  first-more i f xs = first-suc i f xs ∙ ap (λ n. first-changed n f xs) (sym (add-one i))

  pub first-all : (n : ℕ) (f : A → A) (xs : List A) → length xs ≤ n → first-changed n f xs ≡ map f xs
  first-all zero f [] small = refl
  first-all zero f (x ∷ xs) small = absurd (omega (arith, small))
  first-all (suc n) f [] small = refl
  first-all (suc n) f (x ∷ xs) small = ap (λ ys. f x ∷ ys) (first-all n f xs (omega (arith, small)))

  change-same : (i : ℕ) (xs : List A) → change_at i (λ x. x) xs ≡ xs
  change-same i [] = refl
  change-same zero (x ∷ xs) = refl
  change-same (suc i) (x ∷ xs) = ap (λ ys. x ∷ ys) (change-same i xs)

module _ {A B : Type 0} (g : A → B) (y x : A) where
  -- replacing an element changes its image by g, if g of the new one is f of g of the old one
  map-set : (f : B → B) → g y ≡ f (g x) → (xs : List A) (s : ℕ) → slice_get xs s ≡ Some x → map g (set xs s y) ≡ change_at s f (map g xs)
  map-set f e [] s at = cc
  map-set f e (z ∷ xs) zero at = let same : z ≡ x = cc in ap (λ b. b ∷ map g xs) (e ∙ ap (λ a. f (g a)) (sym same))
  map-set f e (z ∷ xs) (suc s) at = ap (λ bs. g z ∷ bs) (map-set f e xs s at)

-- ---- which series are active

module _ (stored : List Stored) (s : ℕ) (x y : Stored) (at : slice_get stored s ≡ Some x) where
  pub activity-changed : (f : Bool → Bool) → y.active ≡ f x.active → map is_active (set stored s y) ≡ change_at s f (map is_active stored)
  activity-changed f e = map-set is_active y x f e stored s at

  -- an update that succeeds is activity
  pub activity-step : {A : Type 0} (r : Result A Refused) → MatchResult r (λ _. y.active ≡ true) (λ _. y.active ≡ x.active)
      → MatchResult r (λ _. map is_active (set stored s y) ≡ active_at s (map is_active stored)) (λ _. map is_active (set stored s y) ≡ map is_active stored)
  activity-step (Ok done) e = activity-changed (λ _. true) e
  activity-step (Err refused) e = activity-changed (λ b. b) e ∙ change-same s (map is_active stored)

-- a place past the end
pub past-active : (xs : List Bool) (n : ℕ) → length xs ≤ n → xs ≡ active_at n xs
past-active [] n past = refl
past-active (x ∷ xs) zero past = absurd (omega (arith, past))
past-active (x ∷ xs) (suc n) past = ap (λ ys. x ∷ ys) (past-active xs n (omega (arith, past)))

-- ---- a change of one cell

module _ (numbers : Numbers) (stored : List Stored) (s : ℕ) (x y : Stored) (at : slice_get stored s ≡ Some x) (same : spot y ≡ spot x) where
  pub agree-changed : Agrees numbers (map spot stored) → Agrees numbers (map spot (set stored s y))
  agree-changed agree =
      subst (Agrees numbers) (sym (map-set spot y x (λ p. p) same stored s at ∙ change-same s (map spot stored))) agree

  abbrev parts : MetricKind × ℕ → DebugValue → Series
  parts p v = record { key = key_at numbers p; value = v }

  abbrev was : DebugValue
  was = value_of x.cell

  all-changed : (f : Series → Series) → parts (spot x) (value_of y.cell) ≡ f (parts (spot x) was) → all_series numbers (set stored s y) ≡ change_at s f (all_series numbers stored)
  all-changed f e = map-set (series_at numbers) y x f (ap (λ p. parts p (value_of y.cell)) same ∙ e) stored s at

  pub kept-all : value_of y.cell ≡ was → all_series numbers (set stored s y) ≡ all_series numbers stored
  kept-all e = all-changed (λ z. z) (ap (parts (spot x)) e) ∙ change-same s (all_series numbers stored)

  -- an update of the cell is one of its series
  pub update-step : {A : Type 0} (by : Update) (r : Result A Refused) → UpdatesValue was (value_of y.cell) by r → UpdatesAt (all_series numbers stored) (all_series numbers (set stored s y)) s by r
  update-step {A = A} by r updates = by_result r updates
    where
      held-at : is_held (all_series numbers stored) s by ≡ kind_eq (kind_of by) (kind_of_value was)
      held-at = ap (is_kind (kind_of by)) (kinds-order numbers stored s ∙ ap (option_map (λ (z : Stored). kind_of_value (value_of z.cell))) at)

      by_result : (q : Result A Refused) → UpdatesValue was (value_of y.cell) by q → UpdatesAt (all_series numbers stored) (all_series numbers (set stored s y)) s by q
      by_result (Ok done) h = (held-at ∙ h.0, all-changed (with_update by) (ap (parts (spot x)) h.1))
      by_result (Err (Memory acted)) h = (held-at ∙ h.0, h.1, h.2, kept-all h.3)
      by_result (Err NoSuchAddress) h = (held-at ∙ h.0, kept-all h.1)
      by_result (Err NoSuchBook) h = absurd h
      by_result (Err BadHandle) h = absurd h

  -- a reset of the cell is one of its series
  pub reset-step : (reset : Reset) → value_of y.cell ≡ cond (resets reset (kind_of_value was)) (new_value (kind_of_value was)) was
      → all_series numbers (set stored s y) ≡ change_at s (after_reset reset) (all_series numbers stored)
  reset-step reset e =
      all-changed (after_reset reset)
      (by_test (resets reset (kind_of_value was))
      (λ t.
      ap (parts (spot x)) (e ∙ ap (λ b. cond b (new_value (kind_of_value was)) was) t)
      ∙ sym (ap (λ b. cond b (new_series (key_at numbers (spot x))) (parts (spot x) was)) t))
      (λ t.
      ap (parts (spot x)) (e ∙ ap (λ b. cond b (new_value (kind_of_value was)) was) t)
      ∙ sym (ap (λ b. cond b (new_series (key_at numbers (spot x))) (parts (spot x) was)) t)))
