-- Remainders by a power of two.
use Rattle.std.proofs.Common.{◌≡◌, ℕ, zero, suc, ◌-◌, ◌/◌, ◌%◌, ◌^◌, ◌≤◌, true, refl, sym, subst, arith, bit_and}
use Rattle.std.specs.Int.{is_power_of_two}
use Rattle.std.specs.Int.RustNames.{count_ones}
use Rattle.std.proofs.Math.Nat.{pow-suc}
use Rattle.std.proofs.lemmas.Bool.{eqb-true}
use Rattle.std.proofs.lemmas.Nat.{and_mask, ones_le_self, zero_from_ones}
use lib.Count.{ones_step}

abbrev IsPower : ℕ → Type 0
IsPower n = (k : ℕ) × (n ≡ 2 ^ k)

-- by the lowest bit, if what is said holds of the others
power_by : (n bit : ℕ) → n % 2 ≡ bit → count_ones n ≡ 1 → (count_ones (n / 2) ≡ 1 → IsPower (n / 2)) → IsPower n
power_by n zero even e others =
    let half = others (omega (arith, ones_step n)) in
    (suc half.0, omega (arith, half.1, pow-suc 2 half.0))
power_by n (suc bit) odd e others =
    let none = zero_from_ones (n / 2) (omega (arith, ones_step n)) in
    (0, omega arith)

power_within : (d n : ℕ) → n ≤ d → count_ones n ≡ 1 → IsPower n
power_within zero n h e = absurd (omega (arith, ones_le_self n))
power_within (suc d) n h e = power_by n (n % 2) refl e (λ half. power_within d (n / 2) (omega arith) half)

-- a mask of the bits below a power of two gives the remainder by it
pub masked : (number count : ℕ) → is_power_of_two count ≡ true → bit_and number (count - 1) ≡ number % count
masked number count one =
    let power = power_within count count (omega arith) (eqb-true (count_ones count) 1 one) in
    subst (λ m. bit_and number (m - 1) ≡ number % m) (sym power.1) (and_mask number power.0)
