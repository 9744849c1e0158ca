-- Bounds that are pushed one after another.
use Rattle.std.proofs.Common.{◌≡◌, ◌∙◌, ℕ, suc, ◌+◌, ◌<◌, inl, inr, ℤ, List, [], ◌∷◌, ◌++◌, length, get_or, Option, ap, sym, arith}
use Rattle.std.specs.Prelude.{pos, FitsSigned, MatchOption}
use Rattle.std.specs.Int.{w64}
use Rattle.std.proofs.lemmas.List.{get_or_push, get_or_append_left}
use Rattle.std.proofs.lemmas.Bool.{cases_lt}
use Rattle.metrics_exporter.specs.BoundLists.{after_steps}

one-more : (k : ℕ) → suc k ≡ k + 1
one-more k = omega arith

module _ (step : ℤ → ℤ) (start : ℤ) where
  -- the bounds so far
  abbrev pub IsEach : List ℤ → ℕ → Type 0
  IsEach xs k = (j : ℕ) → j < k → get_or xs j (pos 0) ≡ after_steps step start j

  -- the next bound, or that it doesn't fit
  abbrev pub IsNext : Option ℤ → ℕ → Type 0
  IsNext next k = MatchOption next (FitsSigned w64 (after_steps step start k) → ⊥) (λ b. b ≡ after_steps step start k)

  pub each-more : (xs : List ℤ) (k : ℕ) (x : ℤ) → length xs ≡ k → x ≡ after_steps step start k → IsEach xs k → IsEach (xs ++ x ∷ []) (k + 1)
  each-more xs k x n is each j less = elim (cases_lt j k) [
    | inl l ↦ get_or_append_left xs (x ∷ []) (pos 0) j (omega (arith, l, n)) ∙ each j l
    | inr l ↦
        let here : j ≡ k = omega (arith, l, less) in
        get_or_push xs x (pos 0) j (n ∙ sym here) ∙ is ∙ ap (after_steps step start) (sym here)
  ]
