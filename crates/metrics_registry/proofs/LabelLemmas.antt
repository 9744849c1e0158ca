-- Decimals without trailing zeros.
use Rattle.std.proofs.Common.{◌≡◌, ℕ, zero, suc, ◌+◌, ◌-◌, ◌*◌, ◌/◌, ◌%◌, ◌^◌, ◌<◌, nat_eq, List, [], ◌∷◌, ◌++◌, refl, sym, ◌∙◌, ap, arith}
use Rattle.std.proofs.lemmas.Bool.{cond-true, cond-false, eqb-true}
use Rattle.metrics_registry.proofs.HeldLemmas.{by_answer}
use Rattle.std.proofs.lemmas.List.{append_assoc}
use Rattle.std.proofs.Math.Nat.{pow-succ'}
use Rattle.std.proofs.Math.Arith.{mod-mul}
use Rattle.metrics_registry.specs.Quantiles.{low_digits, without_trailing_zeros, digit_before}

pub ten_pos : (k : ℕ) → 0 < 10 ^ k
ten_pos zero = omega arith
ten_pos (suc k) = omega (arith, pow-succ' 10 k, ten_pos k)

-- one more low digit
one_more : (k n : ℕ) → n % 10 ^ suc k ≡ (n / 10 ^ k % 10) * 10 ^ k + n % 10 ^ k
one_more k n = ap (λ m. n % m) (pow-succ' 10 k) ∙ mod-mul n (omega arith) (ten_pos k)

both_zero : (d p r : ℕ) → 0 < p → d * p + r ≡ 0 → (d ≡ 0) × (r ≡ 0)
both_zero zero p r pos e = (refl, omega (arith, e))
both_zero (suc d) p r pos e = absurd (omega (arith, e))

-- nothing is left of zeros
pub none_left : (k n : ℕ) → n % 10 ^ k ≡ 0 → without_trailing_zeros (low_digits k n) ≡ []
none_left zero n e = refl
none_left (suc k) n e =
    let parts = both_zero (n / 10 ^ k % 10) (10 ^ k) (n % 10 ^ k) (ten_pos k) (sym (one_more k n) ∙ e) in
    ap (λ ds. digit_before (48 + n / 10 ^ k % 10) ds) (none_left k n parts.1) ∙ ap (λ d. digit_before (48 + d) []) parts.0

some_before : (d : ℕ) (ds : List ℕ) → digit_before d ds ≡ [] → (d ≡ 48) × (ds ≡ [])
some_before d [] e = by_answer (nat_eq d 48)
    (λ t. (eqb-true d 48 t, refl))
    (λ f. absurd (let e' : d ∷ [] ≡ [] = sym (cond-false (nat_eq d 48) [] (d ∷ []) f) ∙ e in cc))
some_before d (x ∷ ds) e = absurd cc

-- if nothing is left, there were zeros alone
all_zeros : (k n : ℕ) → without_trailing_zeros (low_digits k n) ≡ [] → n % 10 ^ k ≡ 0
all_zeros zero n e = omega arith
all_zeros (suc k) n e =
    let both = some_before (48 + n / 10 ^ k % 10) (without_trailing_zeros (low_digits k n)) e in
    let low = all_zeros k n both.1 in
    let d : n / 10 ^ k % 10 ≡ 0 = omega (arith, both.0) in
    omega (arith, one_more k n ∙ ap (λ x. x * 10 ^ k + n % 10 ^ k) d, low)

before : (d : ℕ) (ds : List ℕ) → (digit_before d ds ≡ [] → ⊥) → digit_before d ds ≡ d ∷ ds
before d [] some = by_answer (nat_eq d 48)
    (λ t. absurd (some (cond-true (nat_eq d 48) [] (d ∷ []) t)))
    (λ f. cond-false (nat_eq d 48) [] (d ∷ []) f)
before d (x ∷ ds) some = refl

-- a digit that a nonzero one follows, or that is nonzero, stays
digit_stays : (k n : ℕ) → (n % 10 ^ suc k ≡ 0 → ⊥) → without_trailing_zeros (low_digits (suc k) n) ≡ (48 + n / 10 ^ k % 10) ∷ without_trailing_zeros (low_digits k n)
digit_stays k n some = before (48 + n / 10 ^ k % 10) (without_trailing_zeros (low_digits k n)) (λ e. some (all_zeros (suc k) n e))

-- a place is left if there is a digit
pub some_place : (places n : ℕ) → (n % 10 ^ places ≡ 0 → ⊥) → suc (places - 1) ≡ places
some_place zero n some = absurd (some (omega arith))
some_place (suc k) n some = omega arith

-- one more digit was read
pub pushed : (places n digit : ℕ) (old new all : List ℕ) → (n % 10 ^ places ≡ 0 → ⊥) → digit ≡ 48 + n / 10 ^ (places - 1) % 10 → new ≡ old ++ digit ∷ []
    → old ++ without_trailing_zeros (low_digits places n) ≡ all → new ++ without_trailing_zeros (low_digits (places - 1) n) ≡ all
pushed places n digit old new all some is more told =
    let k = places - 1 in
    let here : suc k ≡ places = some_place places n some in
    let some' : n % 10 ^ suc k ≡ 0 → ⊥ = λ e. some (ap (λ p. n % 10 ^ p) (sym here) ∙ e) in
    ap (λ l. l ++ without_trailing_zeros (low_digits k n)) more
    ∙ (append_assoc old (digit ∷ []) (without_trailing_zeros (low_digits k n))
    ∙ (ap (λ d. old ++ d ∷ without_trailing_zeros (low_digits k n)) is
    ∙ (ap (λ l. old ++ l) (sym (digit_stays k n some')) ∙ (ap (λ p. old ++ without_trailing_zeros (low_digits p n)) here ∙ told))))
