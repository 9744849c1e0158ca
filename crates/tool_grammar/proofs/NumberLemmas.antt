-- Numbers that are read digit by digit.
use Rattle.std.proofs.Common.{◌≡◌, ℕ, zero, suc, ◌+◌, ◌*◌, ◌/◌, ◌%◌, ◌^◌, ◌<◌, ◌≤◌, List, [], ◌∷◌, ◌++◌, length, take, drop, slice_index, decimal, ℤ, pos, negsuc, FitsSigned, w64, Option, Some, None, MatchOption, SomeIff, ◌⊎◌, inl, inr, refl, sym, ap, subst, ◌∙◌, arith, append_assoc}
use Rattle.std.specs.Char.{digit_value}
use Rattle.std.specs.Fmt.{signed_decimal}
use Rattle.std.specs.Int.{IsInRange}
use Rattle.std.specs.Str.Parse.{AllDigits, digits_value}
use Rattle.std.proofs.lemmas.Fmt.{decimal_step, decimal_digit, decimal_is_IsNumeral, decimal_injective, first_decimal, decimal_nonempty}
use Rattle.std.proofs.lemmas.Int.Digits.{digits_value_push}
use Rattle.std.proofs.lemmas.List.{drop_more, take-append-le}
use Rattle.std.proofs.lemmas.Str.Parse.{digit_from_value, digits_value-take-le}

-- ---- what follows from the bytes of a number

digits_after : (xs ys : List ℕ) → AllDigits 10 (xs ++ ys) → AllDigits 10 ys
digits_after [] ys h = h
digits_after (x ∷ xs) ys h = digits_after xs ys h.1

-- each byte after the first is a digit
pub digit_after : (m n byte : ℕ) (others : List ℕ) → m < 2 ^ 64 → decimal m ≡ decimal n ++ byte ∷ others → IsInRange 48 57 byte
digit_after m n byte others fits is = digit_from_value byte (digits_after (decimal n) (byte ∷ others) (subst (AllDigits 10) is (decimal_is_IsNumeral m fits).0.1)).0

-- no other byte follows a zero
pub not_after_zero : (m n byte : ℕ) (others : List ℕ) → n ≡ 0 → m < 2 ^ 64 → decimal m ≡ decimal n ++ byte ∷ others → ⊥
not_after_zero m n byte others zero_so fits is = from m fits (is ∙ ap (λ z. z ++ byte ∷ others) (ap decimal zero_so ∙ decimal_digit 0 (omega arith)))
  where
    from : (m : ℕ) → m < 2 ^ 64 → decimal m ≡ 48 ∷ byte ∷ others → ⊥
    from zero fits is = let two : 48 ∷ [] ≡ 48 ∷ byte ∷ others = sym (decimal_digit 0 (omega arith)) ∙ is in cc
    from (suc m) fits is = omega (arith, rw is at (first_decimal (suc m) (omega arith) fits))

-- the number of the bytes so far and one digit more is no larger than that of all bytes
pub no_larger : (m n byte : ℕ) (others : List ℕ) → m < 2 ^ 64 → n < 2 ^ 64 → decimal m ≡ decimal n ++ byte ∷ others → n * 10 + digit_value byte ≤ m
no_larger m n byte others fits small is =
    let front = decimal n ++ (byte ∷ []) in
    let whole : decimal m ≡ front ++ others = is ∙ sym (append_assoc (decimal n) (byte ∷ []) others) in
    let cut : take (length front) (decimal m) ≡ front = ap (take (length front)) whole ∙ take-append-front front others in
    let worth : digits_value 10 front ≡ n * 10 + digit_value byte = digits_value_push 10 (decimal n) byte ∙ ap (λ z. z * 10 + digit_value byte) (decimal_is_IsNumeral n small).1 in
    omega (arith, ap (digits_value 10) cut, worth, digits_value-take-le 10 (decimal m) (length front) (omega arith), (decimal_is_IsNumeral m fits).1)
  where
    take-append-front : (xs ys : List ℕ) → take (length xs) (xs ++ ys) ≡ xs
    take-append-front [] ys = refl
    take-append-front (x ∷ xs) ys = ap (λ z. x ∷ z) (take-append-front xs ys)

-- a digit after a number that isn't 0
decimal_more : (n d : ℕ) → 1 ≤ n → d < 10 → n * 10 + d < 2 ^ 64 → decimal (n * 10 + d) ≡ decimal n ++ ((48 + d) ∷ [])
decimal_more n d some small fits =
    let front : (n * 10 + d) / 10 ≡ n = omega arith in
    let last : (n * 10 + d) % 10 ≡ d = omega arith in
    decimal_step (n * 10 + d) (omega arith) fits ∙ ap (λ k. decimal k ++ ((48 + (n * 10 + d) % 10) ∷ [])) front ∙ ap (λ k. decimal n ++ ((48 + k) ∷ [])) last

byte_of : (byte : ℕ) → IsInRange 48 57 byte → byte ≡ 48 + digit_value byte
byte_of byte range = grind arith

-- ---- one byte more

abbrev PrintsMore : ℕ → ℕ → Option ℕ → Type 0
PrintsMore n byte found = MatchOption found ((m : ℕ) (others : List ℕ) → m < 2 ^ 64 → decimal m ≡ decimal n ++ byte ∷ others → ⊥) (λ m. decimal m ≡ decimal n ++ byte ∷ [])

pub too_large : (n byte : ℕ) → n < 2 ^ 64 → (n * 10 + digit_value byte < 2 ^ 64 → ⊥) → (m : ℕ) (others : List ℕ) → m < 2 ^ 64 → decimal m ≡ decimal n ++ byte ∷ others → ⊥
too_large n byte small past m others fits is = let le = no_larger m n byte others fits small is in past (omega arith)

pub digit_more : (n byte digit product : ℕ) (found : Option ℕ) → 1 ≤ n → n < 2 ^ 64 → IsInRange 48 57 byte → digit ≡ digit_value byte → digit < 10 → product ≡ n * 10
    → SomeIff found (product + digit < 2 ^ 64) (product + digit) → PrintsMore n byte found
digit_more n byte digit product (Some m) some small range is low times sum =
    let whole : m ≡ n * 10 + digit = omega (arith, sum.1) in
    let last : 48 + digit ≡ byte = omega (arith, byte_of byte range) in
    ap decimal whole ∙ decimal_more n digit some low (omega (arith, sum.0)) ∙ ap (λ z. decimal n ++ (z ∷ [])) last
digit_more n byte digit product None some small range is low times sum = too_large n byte small (λ fits. sum (omega arith))

-- ---- from byte to byte

-- the first digit, and those after it
pub digits_begin : (others : List ℕ) (first n : ℕ) → n < 10 → IsInRange 48 57 first → n ≡ digit_value first → first ∷ others ≡ decimal n ++ others
digits_begin others first n small range is =
    let byte : first ≡ 48 + n = omega (arith, byte_of first range) in
    ap (λ z. z ∷ others) byte ∙ ap (λ z. z ++ others) (sym (decimal_digit n small))

-- a digit that is read
pub digits_go_on : (others : List ℕ) (i n m : ℕ) → i < length others → decimal m ≡ decimal n ++ slice_index others i ∷ []
    → decimal n ++ drop i others ≡ decimal m ++ drop (i + 1) others
digits_go_on others i n m below more =
    let rest = drop (i + 1) others in
    ap (λ z. decimal n ++ z) (drop_more others i 0 below) ∙ sym (append_assoc (decimal n) (slice_index others i ∷ []) rest) ∙ ap (λ z. z ++ rest) (sym more)

-- a byte that no number has next
pub digits_end : (digits others : List ℕ) (i n : ℕ) → i < length others → digits ≡ decimal n ++ drop i others
    → ((m : ℕ) (rest : List ℕ) → m < 2 ^ 64 → decimal m ≡ decimal n ++ slice_index others i ∷ rest → ⊥) → (m : ℕ) → m < 2 ^ 64 → digits ≡ decimal m → ⊥
digits_end digits others i n below so none m fits is =
    none m (drop (i + 1) others) fits (sym is ∙ so ∙ ap (λ z. decimal n ++ z) (drop_more others i 0 below))

-- no number prints as nothing, or begins with another byte
pub no_digits : (digits : List ℕ) → length digits ≡ 0 → (m : ℕ) → m < 2 ^ 64 → digits ≡ decimal m → ⊥
no_digits digits empty m fits is = omega (arith, ap length is, decimal_nonempty m fits)

pub first_byte : (first : ℕ) (others : List ℕ) → (IsInRange 48 57 first → ⊥) → (m : ℕ) → m < 2 ^ 64 → first ∷ others ≡ decimal m → ⊥
first_byte first others none m fits is = none (digit_from_value first (subst (AllDigits 10) (sym is) (decimal_is_IsNumeral m fits).0.1).0)

-- ---- signed numbers

-- past those of 63 bits
pub no_signed : (n : ℕ) → n < 2 ^ 64 → 2 ^ 63 ≤ n → (m : ℤ) → FitsSigned w64 m → signed_decimal m ≡ decimal n → ⊥
no_signed n small past (pos m) fits is =
    let below = fits.sfits in
    let same = decimal_injective m n (omega arith) small is in omega arith
no_signed n small past (negsuc m) fits is = first_byte 45 (decimal (suc m)) (λ range. omega (arith, range)) n small is

-- what two tests of a number of 64 bits leave
pub no_negated : (n : ℕ) → n < 2 ^ 64 → (n ≡ 0) ⊎ (2 ^ 63 < n) → (m : ℤ) → FitsSigned w64 m → signed_decimal m ≡ 45 ∷ decimal n → ⊥
no_negated n small past (pos m) fits is = first_byte 45 (decimal n) (λ range. omega (arith, range)) m (omega (arith, fits.sfits)) (sym is)
no_negated n small past (negsuc m) fits is =
    let below = fits.sfits in
    let tails : decimal (suc m) ≡ decimal n = cc in
    let same = decimal_injective (suc m) n (omega arith) small tails in
    elim past [ inl none ↦ omega arith | inr above ↦ omega arith ]

-- after a minus there is the number below 0 alone
pub no_minus : (word digits : List ℕ) → word ≡ (45 ∷ []) ++ digits → ((n : ℕ) → n < 2 ^ 64 → digits ≡ decimal n → ⊥) → (m : ℤ) → FitsSigned w64 m → word ≡ signed_decimal m → ⊥
no_minus word digits minus none (pos m) fits is = first_byte 45 digits (λ range. omega (arith, range)) m (omega (arith, fits.sfits)) (sym minus ∙ is)
no_minus word digits minus none (negsuc m) fits is =
    let tails : digits ≡ decimal (suc m) = cc in
    none (suc m) (omega (arith, fits.sfits)) tails
