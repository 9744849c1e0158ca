-- The parts of a number, as they are read.
use Rattle.std.proofs.Common.{◌≡◌, ◌∙◌, ℕ, suc, ◌^◌, ◌<◌, ◌==◌, Bool, true, false, List, [], ◌∷◌, length, decimal, inl, ap, sym, arith}
use Rattle.std.proofs.lemmas.Bool.{ne_eqb}
use Rattle.tool_numbers.specs.Numerals.{Power, none, raised, raised_plus, lowered, whole_word, point_word, power_word, IsFraction}
use Rattle.tool_numbers.specs.Parts.{is_none}
use Rattle.tool_numbers.proofs.NumeralLemmas.{no-digit, out, tail-same, decimal-digits}

-- ---- the number before the point

no-minus : (n : ℕ) → n < 2 ^ 64 → (digits : List ℕ) → decimal n ≡ 45 ∷ digits → ⊥
no-minus n small digits e = no-digit 45 digits (decimal n) (out 45 (inl (omega arith))) (decimal-digits n small) e

-- digits after a minus that are no number
pub no-negative : (bytes digits : List ℕ) → bytes ≡ 45 ∷ digits → ((n : ℕ) → n < 2 ^ 64 → digits ≡ decimal n → ⊥)
    → (minus : Bool) (n : ℕ) → n < 2 ^ 64 → bytes ≡ whole_word minus n → ⊥
no-negative bytes digits is fails true n small e = fails n small (tail-same 45 45 digits (decimal n) (sym is ∙ e))
no-negative bytes digits is fails false n small e = no-minus n small digits (sym e ∙ is)

-- ---- the digits after the point

-- neither empty nor a point
pub no-point : (bytes : List ℕ) → 0 < length bytes → ((rest : List ℕ) → bytes ≡ 46 ∷ rest → ⊥)
    → (ds : List ℕ) → IsFraction ds → bytes ≡ point_word ds → ⊥
no-point bytes some lacks [] h e = omega (arith, some, ap length e)
no-point bytes some lacks (d ∷ ds) h e = lacks (d ∷ ds) e

pub some-point : (bytes digits : List ℕ) → bytes ≡ 46 ∷ digits → 0 < length digits → bytes ≡ point_word digits
some-point bytes [] is some = absurd (omega (arith, some))
some-point bytes (d ∷ ds) is some = is

-- ---- the power of ten

module _ (bytes rest : List ℕ) (is : bytes ≡ 101 ∷ rest) where
  after : (more : List ℕ) → bytes ≡ 101 ∷ more → rest ≡ more
  after more e = tail-same 101 101 rest more (sym is ∙ e)

  empty : bytes ≡ [] → ⊥
  empty e = absurd (let g : 101 ∷ rest ≡ [] = sym is ∙ e in cc)

suc-some : (n : ℕ) → (suc n == 0) ≡ false
suc-some n = ne_eqb (suc n) 0 (λ h. omega (arith, h))

-- there is a power exactly if its word isn't empty
pub none-empty : (p : Power) (bytes : List ℕ) → bytes ≡ power_word p → (test : Bool) → test ≡ (length bytes == 0) → test ≡ is_none p
none-empty none bytes e test is = is ∙ ap (λ z. length z == 0) e
none-empty (raised ds) bytes e test is = is ∙ ap (λ z. length z == 0) e ∙ suc-some (length ds)
none-empty (raised_plus ds) bytes e test is = is ∙ ap (λ z. length z == 0) e ∙ suc-some (suc (length ds))
none-empty (lowered ds) bytes e test is = is ∙ ap (λ z. length z == 0) e ∙ suc-some (suc (length ds))
