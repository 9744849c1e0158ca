-- A word is the text of one number at most.
use Rattle.std.proofs.Common.{◌≡◌, ◌≢◌, ◌∙◌, ℕ, ◌^◌, ◌<◌, Bool, true, false, List, [], ◌∷◌, ◌++◌, decimal, ◌⊎◌, inl, inr, refl, ap, sym, subst, arith}
use Rattle.std.specs.Prelude.{All}
use Rattle.std.specs.List.{AllByRecursion}
use Rattle.std.specs.Int.{IsInRange}
use Rattle.std.specs.Str.Parse.{AllDigits}
use Rattle.std.proofs.lemmas.List.Elements.{recursion_from_All, All-from_recursion, All-append}
use Rattle.std.proofs.lemmas.Str.Parse.{digit_from_value}
use Rattle.std.proofs.lemmas.Fmt.{decimal_is_IsNumeral, decimal_injective}
use Rattle.tool_grammar.specs.Cuts.{Lacks, StartsAt}
use Rattle.tool_grammar.proofs.WordsLemmas.{before_same}
use Rattle.tool_numbers.specs.Numerals.{Power, none, raised, raised_plus, lowered, Numeral, whole_word, point_word, power_word, numeral_word}
use Rattle.tool_numbers.specs.Numerals.{IsExponent, IsPower, IsFraction, IsNumeral}

-- ---- digits

pub out : (c : ℕ) → (c < 48) ⊎ (57 < c) → IsInRange 48 57 c → ⊥
out c (inl low) r = omega (arith, low, r.0, r.1)
out c (inr high) r = omega (arith, high, r.0, r.1)

-- a byte that is no digit isn't among digits
pub digits-lack : (c : ℕ) → (IsInRange 48 57 c → ⊥) → (ds : List ℕ) → AllDigits 10 ds → Lacks c ds
digits-lack c other ds h = All-from_recursion (λ x. x ≢ c) ds (lack ds h)
  where
    lack : (ds : List ℕ) → AllDigits 10 ds → AllByRecursion (λ x. x ≢ c) ds
    lack [] h = tt
    lack (d ∷ ds) h = ((λ e. other (subst (IsInRange 48 57) e (digit_from_value d h.0))), lack ds h.1)

pub decimal-digits : (n : ℕ) → n < 2 ^ 64 → AllDigits 10 (decimal n)
decimal-digits n h = (decimal_is_IsNumeral n h).0.1

lacks-more : (c x : ℕ) (xs : List ℕ) → x ≢ c → Lacks c xs → Lacks c (x ∷ xs)
lacks-more c x xs h lacks = All-from_recursion (λ y. y ≢ c) (x ∷ xs) (h, recursion_from_All (λ y. y ≢ c) xs lacks)

-- digits begin with no other byte
pub no-digit : (c : ℕ) (rest ds : List ℕ) → (IsInRange 48 57 c → ⊥) → AllDigits 10 ds → ds ≡ c ∷ rest → ⊥
no-digit c rest ds other h e = other (digit_from_value c (subst (AllDigits 10) e h).0)

-- ---- the parts of a number lack what parts them

whole-lacks : (c : ℕ) (minus : Bool) (n : ℕ) → (IsInRange 48 57 c → ⊥) → 45 ≢ c → n < 2 ^ 64 → Lacks c (whole_word minus n)
whole-lacks c true n other differs h = lacks-more c 45 (decimal n) differs (digits-lack c other (decimal n) (decimal-digits n h))
whole-lacks c false n other differs h = digits-lack c other (decimal n) (decimal-digits n h)

point-lacks : (c : ℕ) (ds : List ℕ) → (IsInRange 48 57 c → ⊥) → 46 ≢ c → AllDigits 10 ds → Lacks c (point_word ds)
point-lacks c [] other differs h = All-from_recursion (λ x. x ≢ c) [] tt
point-lacks c (d ∷ ds) other differs h = lacks-more c 46 (d ∷ ds) differs (digits-lack c other (d ∷ ds) h)

power-lacks : (c : ℕ) (p : Power) → (IsInRange 48 57 c → ⊥) → 101 ≢ c → 43 ≢ c → 45 ≢ c → IsPower p → Lacks c (power_word p)
power-lacks c none other e plus minus h = All-from_recursion (λ x. x ≢ c) [] tt
power-lacks c (raised ds) other e plus minus h = lacks-more c 101 ds e (digits-lack c other ds h.2)
power-lacks c (raised_plus ds) other e plus minus h = lacks-more c 101 (43 ∷ ds) e (lacks-more c 43 ds plus (digits-lack c other ds h.2))
power-lacks c (lowered ds) other e plus minus h = lacks-more c 101 (45 ∷ ds) e (lacks-more c 45 ds minus (digits-lack c other ds h.2))

pub point-starts : (ds : List ℕ) → StartsAt 46 (point_word ds)
point-starts [] = tt
point-starts (d ∷ ds) = refl

pub power-starts : (p : Power) → StartsAt 101 (power_word p)
power-starts none = tt
power-starts (raised ds) = refl
power-starts (raised_plus ds) = refl
power-starts (lowered ds) = refl

pub numeral-lacks : (c : ℕ) → (c < 43) → (n : Numeral) → IsNumeral n → Lacks c (numeral_word n)
numeral-lacks c small n h =
    let other = out c (inl (omega (arith, small))) in
    let number = All-append (λ x. x ≢ c) (whole_word n.minus n.whole) (point_word n.fraction)
    (whole-lacks c n.minus n.whole other (λ e. omega (arith, e, small)) h.0) (point-lacks c n.fraction other (λ e. omega (arith, e, small)) h.1.0) in
    All-append (λ x. x ≢ c) (whole_word n.minus n.whole ++ point_word n.fraction) (power_word n.power) number
    (power-lacks c n.power other (λ e. omega (arith, e, small)) (λ e. omega (arith, e, small)) (λ e. omega (arith, e, small)) h.2)

-- ---- a word is cut in one way

module _ (word number rest whole tail : List ℕ) (is : word ≡ number ++ rest) (lacks : Lacks 101 number) (starts : StartsAt 101 rest)
    (cut : number ≡ whole ++ tail) (none : Lacks 46 whole) (begins : StartsAt 46 tail) where
  pub parts-same : (n : Numeral) → IsNumeral n → word ≡ numeral_word n
      → (whole ≡ whole_word n.minus n.whole) × (tail ≡ point_word n.fraction) × (rest ≡ power_word n.power)
  parts-same n h e =
      let w = whole_word n.minus n.whole in
      let p = point_word n.fraction in
      let e-out = out 101 (inr (omega arith)) in
      let p-out = out 46 (inl (omega arith)) in
      let lacking = All-append (λ x. x ≢ 101) w p (whole-lacks 101 n.minus n.whole e-out (λ g. omega (arith, g)) h.0)
      (point-lacks 101 n.fraction e-out (λ g. omega (arith, g)) h.1.0) in
      let outer = before_same 101 number (w ++ p) rest (power_word n.power) lacks lacking starts (power-starts n.power) (sym is ∙ e) in
      let inner = before_same 46 whole w tail p none (whole-lacks 46 n.minus n.whole p-out (λ g. omega (arith, g)) h.0) begins (point-starts n.fraction) (sym cut ∙ outer.0) in
      (inner.0, inner.1, outer.1)

-- ---- each part is the word of one

pub tail-same : (x y : ℕ) (xs ys : List ℕ) → x ∷ xs ≡ y ∷ ys → xs ≡ ys
tail-same x y xs ys e = cc

pub heads : (x y : ℕ) (xs ys : List ℕ) → x ∷ xs ≡ y ∷ ys → x ≡ y
heads x y xs ys e = cc

apart : {x y : ℕ} → x ≡ y → x ≢ y → ⊥
apart e h = h e

pub whole-same : (a b : Bool) (m n : ℕ) → m < 2 ^ 64 → n < 2 ^ 64 → whole_word a m ≡ whole_word b n → (a ≡ b) × (m ≡ n)
whole-same true true m n h g e = (refl, decimal_injective m n h g (tail-same 45 45 (decimal m) (decimal n) e))
whole-same false false m n h g e = (refl, decimal_injective m n h g e)
whole-same true false m n h g e = absurd (no-digit 45 (decimal m) (decimal n) (out 45 (inl (omega arith))) (decimal-digits n g) (sym e))
whole-same false true m n h g e = absurd (no-digit 45 (decimal n) (decimal m) (out 45 (inl (omega arith))) (decimal-digits m h) e)

pub point-same : (a b : List ℕ) → point_word a ≡ point_word b → a ≡ b
point-same [] [] e = refl
point-same [] (y ∷ b) e = absurd (cc)
point-same (x ∷ a) [] e = absurd (cc)
point-same (x ∷ a) (y ∷ b) e = tail-same 46 46 (x ∷ a) (y ∷ b) e

pub power-same : (p q : Power) → IsPower p → IsPower q → power_word p ≡ power_word q → p ≡ q
power-same none none h g e = refl
power-same none (raised y) h g e = absurd (cc)
power-same none (raised_plus y) h g e = absurd (cc)
power-same none (lowered y) h g e = absurd (cc)
power-same (raised x) none h g e = absurd (cc)
power-same (raised x) (raised y) h g e = ap raised (tail-same 101 101 x y e)
power-same (raised x) (raised_plus y) h g e = absurd (no-digit 43 y x (out 43 (inl (omega arith))) h.2 (tail-same 101 101 x (43 ∷ y) e))
power-same (raised x) (lowered y) h g e = absurd (no-digit 45 y x (out 45 (inl (omega arith))) h.2 (tail-same 101 101 x (45 ∷ y) e))
power-same (raised_plus x) none h g e = absurd (cc)
power-same (raised_plus x) (raised y) h g e = absurd (no-digit 43 x y (out 43 (inl (omega arith))) g.2 (sym (tail-same 101 101 (43 ∷ x) y e)))
power-same (raised_plus x) (raised_plus y) h g e = ap raised_plus (tail-same 43 43 x y (tail-same 101 101 (43 ∷ x) (43 ∷ y) e))
power-same (raised_plus x) (lowered y) h g e = absurd (plus-minus x y (tail-same 101 101 (43 ∷ x) (45 ∷ y) e))
  where
    plus-minus : (x y : List ℕ) → 43 ∷ x ≡ 45 ∷ y → ⊥
    plus-minus x y e = apart (heads 43 45 x y e) (omega arith)
power-same (lowered x) none h g e = absurd (cc)
power-same (lowered x) (raised y) h g e = absurd (no-digit 45 x y (out 45 (inl (omega arith))) g.2 (sym (tail-same 101 101 (45 ∷ x) y e)))
power-same (lowered x) (raised_plus y) h g e = absurd (minus-plus x y (tail-same 101 101 (45 ∷ x) (43 ∷ y) e))
  where
    minus-plus : (x y : List ℕ) → 45 ∷ x ≡ 43 ∷ y → ⊥
    minus-plus x y e = apart (heads 45 43 x y e) (omega arith)
power-same (lowered x) (lowered y) h g e = ap lowered (tail-same 45 45 x y (tail-same 101 101 (45 ∷ x) (45 ∷ y) e))

-- a word is that of one number
pub numeral-same : (a b : Numeral) → IsNumeral a → IsNumeral b → numeral_word a ≡ numeral_word b → a ≡ b
numeral-same a b h g e =
    let w = whole_word a.minus a.whole in
    let p = point_word a.fraction in
    let e-out = out 101 (inr (omega arith)) in
    let p-out = out 46 (inl (omega arith)) in
    let lacking = All-append (λ x. x ≢ 101) w p (whole-lacks 101 a.minus a.whole e-out (λ k. omega (arith, k)) h.0)
    (point-lacks 101 a.fraction e-out (λ k. omega (arith, k)) h.1.0) in
    let (wholes, points, powers) = parts-same (numeral_word a) (w ++ p) (power_word a.power) w p refl lacking (power-starts a.power) refl
    (whole-lacks 46 a.minus a.whole p-out (λ k. omega (arith, k)) h.0) (point-starts a.fraction) b g e in
    let first = whole-same a.minus b.minus a.whole b.whole h.0 g.0 wholes in
    let fraction = point-same a.fraction b.fraction points in
    let power = power-same a.power b.power h.2 g.2 powers in
    λ i. record { minus = first.0 i; whole = first.1 i; fraction = fraction i; power = power i }
