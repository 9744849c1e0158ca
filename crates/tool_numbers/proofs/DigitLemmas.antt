-- Digits that are read one after another.
use Rattle.std.proofs.Common.{◌≡◌, ◌∙◌, ℕ, zero, suc, ◌+◌, ◌*◌, ◌^◌, ◌<◌, ◌≤◌, ◌==◌, Bool, false, List, [], ◌∷◌, length, take, get_or, refl, ap, sym, subst, arith}
use Rattle.std.specs.Char.{digit_value}
use Rattle.std.proofs.lemmas.Bool.{false≢true}
use Rattle.std.specs.Int.{IsInRange}
use Rattle.std.specs.Str.Parse.{AllDigits, digits_value}
use Rattle.std.proofs.Math.Nat.{pow-le-pow_right}
use Rattle.std.proofs.lemmas.List.{length-take-le}
use Rattle.std.proofs.lemmas.Int.Digits.{digits_value-lt, digits_value_more}

-- one more digit
pub digits-more : (ds : List ℕ) (i : ℕ) → i < length ds → AllDigits 10 (take i ds) → digit_value (get_or ds i 0) < 10 → AllDigits 10 (take (suc i) ds)
digits-more [] i small h d = absurd (omega (arith, small))
digits-more (x ∷ ds) zero small h d = (d, tt)
digits-more (x ∷ ds) (suc i) small h d = (h.0, digits-more ds i (omega (arith, small)) h.1 d)

-- the same, by the number of digits after it
pub digits-next : (ds : List ℕ) (i : ℕ) → i < length ds → AllDigits 10 (take i ds) → digit_value (get_or ds i 0) < 10 → AllDigits 10 (take (i + 1) ds)
digits-next ds i small h d =
    let next : suc i ≡ i + 1 = omega arith in
    subst (λ k. AllDigits 10 (take k ds)) next (digits-more ds i small h d)

-- not empty
pub some-length : (test : Bool) (ds : List ℕ) → test ≡ (length ds == 0) → test ≡ false → 0 < length ds
some-length test [] is fails = absurd (false≢true (sym fails ∙ is))
some-length test (d ∷ ds) is fails = omega arith

-- the number so far is small
pub digits-small : (ds : List ℕ) (i n : ℕ) → i < length ds → length ds ≤ 18 → AllDigits 10 (take i ds) → n ≡ digits_value 10 (take i ds) → n < 10 ^ 17
digits-small ds i n small few h is =
    let len : length (take i ds) ≡ i = length-take-le i ds (omega (arith, small)) in
    let below : digits_value 10 (take i ds) < 10 ^ i = subst (λ k. digits_value 10 (take i ds) < 10 ^ k) len (digits_value-lt 10 (take i ds) h) in
    let le : i ≤ 17 = omega (arith, small, few) in
    let top : 10 ^ i ≤ 10 ^ 17 = pow-le-pow_right {n = 10} (omega arith) {i = i} {j = 17} le in
    omega (arith, is, below, top)

pub value-small : (ds : List ℕ) (n k : ℕ) → AllDigits 10 ds → length ds ≤ k → n ≡ digits_value 10 ds → n < 10 ^ k
value-small ds n k h few is =
    let below : digits_value 10 ds < 10 ^ length ds = digits_value-lt 10 ds h in
    let top : 10 ^ length ds ≤ 10 ^ k = pow-le-pow_right {n = 10} (omega arith) {i = length ds} {j = k} few in
    omega (arith, is, below, top)
