-- Numbers times powers of ten.
use Rattle.std.proofs.Common.{◌≡◌, ◌≢◌, ◌∙◌, ℕ, zero, suc, ◌+◌, ◌*◌, ◌/◌, ◌%◌, ◌^◌, ◌<◌, ◌≤◌, ap, sym, subst, arith}
use Rattle.std.proofs.Math.Nat.{one-le-pow, mul_assoc, mul-le-mul_right, mul-mod_left, mul-div_cancel}
use Rattle.std.proofs.lemmas.Nat.{pow-add}

pub power-some : (k : ℕ) → 0 < 10 ^ k
power-some k = one-le-pow k 10 (omega arith)

-- n is some
pub grows : (n x : ℕ) → 0 < n → x ≤ n * x
grows n x h = subst (λ z. z ≤ n * x) (one-times x) (mul-le-mul_right x h)
  where
    one-times : (x : ℕ) → 1 * x ≡ x
    one-times x = grind arith

pub too-large : (n power : ℕ) → n ≢ 0 → (power < 2 ^ 128 → ⊥) → (units : ℕ) → units < 2 ^ 64 → units ≡ n * power → ⊥
too-large n power some large units small is =
    let g = grows n power (omega (arith, some)) in
    large (omega (arith, small, is, g))

pub not-whole : (n power : ℕ) → n ≢ 0 → n < 2 ^ 128 → (power < 2 ^ 128 → ⊥) → (units : ℕ) → units * power ≡ n → ⊥
not-whole n power some fits large zero is = some (sym is ∙ (grind arith))
not-whole n power some fits large (suc k) is =
    let g = grows (suc k) power (omega arith) in
    large (omega (arith, g, is, fits))

pub no-rest : (n power : ℕ) → n % power ≢ 0 → (units : ℕ) → units * power ≡ n → ⊥
no-rest n power some units is = some (ap (λ z. z % power) (sym is) ∙ mul-mod_left units power)

-- the same factor on both sides
pub cancels : (a b x : ℕ) → 0 < x → a * x ≡ b * x → a ≡ b
cancels a b x some e =
    sym (mul-div_cancel a some) ∙ ap (λ z. z / x) e ∙ mul-div_cancel b some

module _ (k d u n units : ℕ) (is : u ≡ k + d) where
  split : n * 10 ^ u ≡ (n * 10 ^ k) * 10 ^ d
  split = ap (λ z. n * 10 ^ z) is ∙ ap (λ z. n * z) (pow-add 10 k d) ∙ sym (mul_assoc n (10 ^ k) (10 ^ d))

  pub raised-to : units ≡ n * 10 ^ k → units * 10 ^ d ≡ n * 10 ^ u
  raised-to e = ap (λ z. z * 10 ^ d) e ∙ sym split

  pub raised-from : units * 10 ^ d ≡ n * 10 ^ u → units ≡ n * 10 ^ k
  raised-from e = cancels units (n * 10 ^ k) (10 ^ d) (power-some d) (e ∙ split)

module _ (k d u n units : ℕ) (is : d ≡ k + u) where
  divided : units * 10 ^ d ≡ (units * 10 ^ k) * 10 ^ u
  divided = ap (λ z. units * 10 ^ z) is ∙ ap (λ z. units * z) (pow-add 10 k u) ∙ sym (mul_assoc units (10 ^ k) (10 ^ u))

  pub lowered-to : units * 10 ^ k ≡ n → units * 10 ^ d ≡ n * 10 ^ u
  lowered-to e = divided ∙ ap (λ z. z * 10 ^ u) e

  pub lowered-from : units * 10 ^ d ≡ n * 10 ^ u → units * 10 ^ k ≡ n
  lowered-from e = cancels (units * 10 ^ k) n (10 ^ u) (power-some u) (sym divided ∙ e)
