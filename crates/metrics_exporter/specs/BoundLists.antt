-- Bounds made by a rule: a first one, and each other one a step after the one before.
use Rattle.std.specs.Prelude.{◌≡◌, ◌<◌, ℕ, zero, suc, ℤ, ◌+ℤ◌, ◌*ℤ◌, List, length, get_or, pos, FitsSigned}
use Rattle.std.specs.Int.{w64}
use Rattle.metrics_exporter.specs.declared.bound_lists.Step.{Step}
use Rattle.metrics_exporter.specs.declared.bound_lists.Step.TheVariants.{Add, Multiply}

-- the number after so many steps
abbrev pub after_steps : (ℤ → ℤ) → ℤ → ℕ → ℤ
after_steps step start zero = start
after_steps step start (suc k) = step (after_steps step start k)

-- so many bounds, of which the first is the start, and each other one a step after the one before
pub record AreSteps (step : ℤ → ℤ) (start : ℤ) (count : ℕ) (bounds : List ℤ) : Type 0 where
  pub number : length bounds ≡ count
  pub each : (k : ℕ) → k < count → get_or bounds k (pos 0) ≡ after_steps step start k

-- one of so many bounds is not from -2^63 to 2^63 - 1
abbrev pub OneIsPast : (ℤ → ℤ) → ℤ → ℕ → Type 0
OneIsPast step start count = (k : ℕ) × (k < count) × ¬ FitsSigned w64 (after_steps step start k)

abbrev pub stepped : Step → ℤ → ℤ
stepped (Add width) bound = bound +ℤ width
stepped (Multiply factor) bound = bound *ℤ factor
