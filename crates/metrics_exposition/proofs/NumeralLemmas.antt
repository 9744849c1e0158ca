-- Numbers as they are written: what a reader makes of them, and that none is written as `+Inf`.
use Rattle.std.proofs.Common.{◌≡◌, ◌∙◌, ◌≤◌, ◌<◌, ◌+◌, ◌-◌, ◌*◌, ◌/◌, ◌%◌, ◌^◌, ◌⊎◌, inl, inr, ℕ, zero, suc, ℤ, pos, negsuc, Bool, true, false, cond, nat_eq, List, [], ◌∷◌, ◌++◌, length, codes, get_or, append_assoc, append-nil, refl, ap, sym, subst, arith, lit<}
use Rattle.std.specs.Prelude.{neg_ℤ, int_lt}
use Rattle.std.specs.Fmt.{decimal}
use Rattle.std.specs.List.{AllByRecursion}
use Rattle.std.specs.Int.Signed.{mag}
use Rattle.std.proofs.Math.Nat.{pow-suc, mul_assoc}
use Rattle.std.proofs.lemmas.Int.{ints}
use Rattle.std.proofs.lemmas.Bool.{cond_both}
use Rattle.std.proofs.lemmas.Bool.Decides.{nat_tests}
use Rattle.std.proofs.lemmas.Fmt.{decimal_by_steps_wide}
use Rattle.metrics_exposition.specs.Numbers.{pointed, unsigned, number, spelled_behind, whole_in, places_in, size, IsShifted}
use Rattle.metrics_exposition.proofs.PairLemmas.{each-map, each-append}

-- ---- digits

abbrev IsDigit : ℕ → Type 0
IsDigit c = (48 ≤ c) × (c ≤ 57)

digit : (n : ℕ) → IsDigit (48 + n % 10)
digit n = (omega arith, omega arith)

-- a text begins with a digit
abbrev BeginsDigit : List ℕ → Type 0
BeginsDigit [] = ⊥
BeginsDigit (c ∷ cs) = IsDigit c

begins-more : (ds es : List ℕ) → BeginsDigit ds → BeginsDigit (ds ++ es)
begins-more [] es h = absurd h
begins-more (c ∷ cs) es h = h

-- the digits of the number
record AreDigits (n : ℕ) (ds : List ℕ) : Type 0 where
  all : AllByRecursion IsDigit ds
  begin : BeginsDigit ds
  spell : spelled_behind 0 ds ≡ n

no-point : (c : ℕ) → IsDigit c → nat_eq c 46 ≡ false
no-point c h = grind arith

spelled-one : (m c : ℕ) (ds : List ℕ) → spelled_behind m (ds ++ c ∷ []) ≡ cond (nat_eq c 46) (spelled_behind m ds) (spelled_behind m ds * 10 + (c - 48))
spelled-one m c [] = refl
spelled-one m c (d ∷ ds) = by (λ n. cond (nat_eq c 46) n (n * 10 + (c - 48))) (nat_eq d 46) (spelled-one m c ds) (spelled-one (m * 10 + (d - 48)) c ds)
  where
    by : (f : ℕ → ℕ) (b : Bool) {x y p q : ℕ} → x ≡ f p → y ≡ f q → cond b x y ≡ f (cond b p q)
    by f true h g = h
    by f false h g = g

spelled-digit : (m c : ℕ) (ds : List ℕ) → IsDigit c → spelled_behind m (ds ++ c ∷ []) ≡ spelled_behind m ds * 10 + (c - 48)
spelled-digit m c ds h = spelled-one m c ds ∙ ap (λ b. cond b (spelled_behind m ds) (spelled_behind m ds * 10 + (c - 48))) (no-point c h)

-- a number's last digit after the others
last : (n : ℕ) (ds : List ℕ) → spelled_behind 0 ds ≡ n / 10 → spelled_behind 0 (ds ++ (48 + n % 10) ∷ []) ≡ n
last n ds e = spelled-digit 0 (48 + n % 10) ds (digit n) ∙ (let q : spelled_behind 0 ds ≡ n / 10 = e in omega (arith, q))

decimal-digits : (n : ℕ) → n < 10 ^ 64 → AreDigits n (decimal n)
decimal-digits n small =
    decimal_by_steps_wide AreDigits
    (λ n less. record { all = ((omega arith, omega (arith, less)), tt); begin = (omega arith, omega (arith, less)); spell = spelled-digit 0 (48 + n) [] (omega arith, omega (arith, less)) ∙ omega arith })
    (λ n ds more h. record {
      all = each-append IsDigit ds ((48 + n % 10) ∷ []) h.all (digit n, tt);
      begin = begins-more ds ((48 + n % 10) ∷ []) h.begin;
      spell = last n ds h.spell;
    })
    n small

-- ---- digits around a point

digits-none : (ds : List ℕ) → AllByRecursion IsDigit ds → places_in ds ≡ 0
digits-none [] h = refl
digits-none (c ∷ cs) h = ap (λ b. cond b (length cs) (places_in cs)) (no-point c h.0) ∙ digits-none cs h.1

digits-behind : (ds es : List ℕ) → AllByRecursion IsDigit ds → places_in (ds ++ 46 ∷ es) ≡ length es
digits-behind [] es h = refl
digits-behind (c ∷ cs) es h = ap (λ b. cond b (length (cs ++ 46 ∷ es)) (places_in (cs ++ 46 ∷ es))) (no-point c h.0) ∙ digits-behind cs es h.1

abbrev IsPart : ℕ → Type 0
IsPart c = (45 ≤ c) × (c ≤ 57)

is-part : (c : ℕ) → IsDigit c → IsPart c
is-part c h = (omega (arith, h.0), h.1)

record ArePointed (places n : ℕ) (ds : List ℕ) : Type 0 where
  all : AllByRecursion IsPart ds
  begin : BeginsDigit ds
  spell : spelled_behind 0 ds ≡ n
  behind : (es : List ℕ) → places_in (ds ++ es) ≡ places + length es

pointed-are : (places n : ℕ) → n < 10 ^ 64 → ArePointed places n (pointed places n)
pointed-are zero n small =
    let ds = decimal n in
    let h = decimal-digits n small in
    record {
      all = each-append IsPart ds (46 ∷ []) (each-map IsDigit IsPart is-part ds h.all) ((omega arith, omega arith), tt);
      begin = begins-more ds (46 ∷ []) h.begin;
      spell = spelled-one 0 46 ds ∙ h.spell;
      behind = λ es. ap places_in (append_assoc ds (46 ∷ []) es) ∙ digits-behind ds es h.all ∙ omega arith;
    }
pointed-are (suc places) n small =
    let ds = pointed places (n / 10) in
    let c = 48 + n % 10 in
    let h = pointed-are places (n / 10) (omega (arith, small)) in
    record {
      all = each-append IsPart ds (c ∷ []) h.all (is-part c (digit n), tt);
      begin = begins-more ds (c ∷ []) h.begin;
      spell = last n ds h.spell;
      behind = λ es. ap places_in (append_assoc ds (c ∷ []) es) ∙ h.behind (c ∷ es) ∙ omega arith;
    }

-- a number without a sign
record AreUnits (places n : ℕ) (ds : List ℕ) : Type 0 where
  all : AllByRecursion IsPart ds
  begin : BeginsDigit ds
  without : ℕ
  spell : spelled_behind 0 ds * 10 ^ without ≡ n
  behind : places_in ds + without ≡ places
  shortest : (places_in ds ≡ 0) ⊎ (0 < spelled_behind 0 ds % 10)

times-one : (m : ℕ) → m * 10 ^ 0 ≡ m
times-one m = let e : 10 ^ 0 ≡ 1 = refl in ap (λ p. m * p) e ∙ omega arith

once-more : (m d n : ℕ) → m * 10 ^ d ≡ n / 10 → n % 10 ≡ 0 → m * 10 ^ suc d ≡ n
once-more m d n e none =
    let power : 10 ^ suc d ≡ 10 ^ d * 10 = pow-suc 10 d in
    ap (λ p. m * p) power ∙ times m (10 ^ d) ∙ ap (λ k. k * 10) e ∙ omega (arith, none)
  where
    times : (a p : ℕ) → a * (p * 10) ≡ (a * p) * 10
    times a p = sym (mul_assoc a p 10)

some-left : (n : ℕ) → nat_eq (n % 10) 0 ≡ false → 0 < n % 10
some-left n e = grind (arith, nat_tests, e)

none-left : (n : ℕ) → nat_eq (n % 10) 0 ≡ true → n % 10 ≡ 0
none-left n e = grind (arith, nat_tests, e)

unsigned-are : (places n : ℕ) → n < 10 ^ 64 → AreUnits places n (unsigned places n)
unsigned-are zero n small =
    let h = decimal-digits n small in
    let none = digits-none (decimal n) h.all in
    record {
      all = each-map IsDigit IsPart is-part (decimal n) h.all;
      begin = h.begin;
      without = 0;
      spell = times-one (spelled_behind 0 (decimal n)) ∙ h.spell;
      behind = omega (arith, none);
      shortest = inl none;
    }
unsigned-are (suc places) n small =
    cond_both (nat_eq (n % 10) 0) (unsigned places (n / 10)) (pointed (suc places) n) (AreUnits (suc places) n)
    (λ zero_last.
    let h = unsigned-are places (n / 10) (omega (arith, small)) in
    record {
      all = h.all;
      begin = h.begin;
      without = suc h.without;
      spell = once-more (spelled_behind 0 (unsigned places (n / 10))) h.without n h.spell (none-left n zero_last);
      behind = omega (arith, h.behind);
      shortest = h.shortest;
    })
    (λ other.
    let ds = pointed (suc places) n in
    let h = pointed-are (suc places) n small in
    let behind : places_in ds ≡ suc places = ap places_in (sym (append-nil ds)) ∙ h.behind [] ∙ omega arith in
    record {
      all = h.all;
      begin = h.begin;
      without = 0;
      spell = times-one (spelled_behind 0 ds) ∙ h.spell;
      behind = omega (arith, behind);
      shortest = inr (subst (λ m. 0 < m % 10) (sym h.spell) (some-left n other));
    })

-- zeros at the end change nothing
pub unsigned-same : (places k n : ℕ) → unsigned (k + places) (n * 10 ^ k) ≡ unsigned places n
unsigned-same places zero n = let none : 0 + places ≡ places = omega arith in ap (λ l. unsigned l (n * 10 ^ 0)) none ∙ ap (unsigned places) (times-one n)
unsigned-same places (suc k) n =
    let p = 10 ^ k in
    let m = n * p in
    let ten : n * 10 ^ suc k ≡ m * 10 = ap (λ q. n * q) (pow-suc 10 k) ∙ sym (mul_assoc n p 10) in
    let more : suc k + places ≡ suc (k + places) = omega arith in
    let last : nat_eq ((m * 10) % 10) 0 ≡ true = ap (λ d. nat_eq d 0) (let e : (m * 10) % 10 ≡ 0 = omega arith in e) in
    let rest : (m * 10) / 10 ≡ m = omega arith in
    ap (λ q. unsigned (suc k + places) q) ten ∙ ap (λ l. unsigned l (m * 10)) more
    ∙ ap (λ b. cond b (unsigned (k + places) ((m * 10) / 10)) (pointed (suc (k + places)) (m * 10))) last
    ∙ ap (unsigned (k + places)) rest ∙ unsigned-same places k n

-- ---- numbers

whole-digits : (ds : List ℕ) → BeginsDigit ds → whole_in ds ≡ pos (spelled_behind 0 ds)
whole-digits [] h = absurd h
whole-digits (c ∷ cs) h = ap (λ b. cond b (neg_ℤ (pos (spelled_behind 0 cs))) (pos (spelled_behind 0 (c ∷ cs)))) (no-sign c h)
  where
    no-sign : (c : ℕ) → IsDigit c → nat_eq c 45 ≡ false
    no-sign c h = grind arith

fits : (n : ℕ) → n ≤ 2 ^ 128 → n < 10 ^ 64
fits n small = let bits : 2 ^ 128 < 10 ^ 64 = lit< tt in omega (arith, small, bits)

-- what a reader makes of a number's text
pub number-shifted : (places : ℕ) (z : ℤ) → mag z < 2 ^ 128 → IsShifted places z (number places z)
number-shifted places (pos n) small =
    let h = unsigned-are places n (fits n (omega (arith, small))) in
    let is = whole-digits (unsigned places n) h.begin in
    record {
      without = h.without;
      digits = ap (λ w. size w * 10 ^ h.without) is ∙ h.spell;
      sign = ap (λ w. int_lt w (pos 0)) is ∙ not-below (spelled_behind 0 (unsigned places n)) ∙ sym (not-below n);
      behind = h.behind;
      shortest = subst (λ w. (places_in (unsigned places n) ≡ 0) ⊎ (0 < size w % 10)) (sym is) h.shortest;
    }
  where
    not-below : (m : ℕ) → int_lt (pos m) (pos 0) ≡ false
    not-below m = grind (arith, ints)
number-shifted places (negsuc n) small =
    let h = unsigned-are places (suc n) (fits (suc n) (omega (arith, small))) in
    let m = spelled_behind 0 (unsigned places (suc n)) in
    record {
      without = h.without;
      digits = ap (λ w. w * 10 ^ h.without) (size-neg m) ∙ h.spell;
      sign = below m (some m h.without h.spell) ∙ sym (grind (arith, ints));
      behind = h.behind;
      shortest = subst (λ w. (places_in (unsigned places (suc n)) ≡ 0) ⊎ (0 < w % 10)) (sym (size-neg m)) h.shortest;
    }
  where
    size-neg : (m : ℕ) → size (neg_ℤ (pos m)) ≡ m
    size-neg zero = refl
    size-neg (suc m) = refl

    below : (m : ℕ) → 0 < m → int_lt (neg_ℤ (pos m)) (pos 0) ≡ true
    below zero h = absurd (omega (arith, h))
    below (suc m) h = refl

    some : (m d : ℕ) → m * 10 ^ d ≡ suc n → 0 < m
    some zero d e = absurd (let g : 0 * 10 ^ d ≡ 0 = omega arith in omega (arith, e, g))
    some (suc m) d e = omega arith

wide : (z : ℤ) → mag z < 2 ^ 63 → mag z < 2 ^ 128
wide z small = let bits : 2 ^ 63 < 2 ^ 128 = lit< tt in omega (arith, small, bits)

same-sign : (y z : ℤ) → size y ≡ size z → int_lt y (pos 0) ≡ int_lt z (pos 0) → y ≡ z
same-sign (pos n) (pos m) e s = ap pos e
same-sign (negsuc n) (negsuc m) e s = let same : n ≡ m = omega (arith, e) in ap negsuc same
same-sign (pos n) (negsuc m) e s = absurd (grind (arith, ints, s))
same-sign (negsuc n) (pos m) e s = absurd (grind (arith, ints, s))

-- so it determines the number
pub number-injective : (places : ℕ) (y z : ℤ) → mag y < 2 ^ 63 → mag z < 2 ^ 63 → number places y ≡ number places z → y ≡ z
number-injective places y z hy hz e =
    let a = number-shifted places y (wide y hy) in
    let b = number-shifted places z (wide z hz) in
    let whole : whole_in (number places y) ≡ whole_in (number places z) = ap whole_in e in
    let points : places_in (number places y) ≡ places_in (number places z) = ap places_in e in
    let less : a.without ≡ b.without = omega (arith, a.behind, b.behind, points) in
    same-sign y z
    (sym a.digits ∙ ap (λ w. size w * 10 ^ a.without) whole ∙ ap (λ d. size (whole_in (number places z)) * 10 ^ d) less ∙ b.digits)
    (sym a.sign ∙ ap (λ w. int_lt w (pos 0)) whole ∙ b.sign)

-- and consists of ASCII characters
pub number-ascii : (places : ℕ) (z : ℤ) → mag z < 2 ^ 63 → AllByRecursion (λ b. b < 128) (number places z)
number-ascii places (pos n) small = each-map IsPart (λ b. b < 128) (λ b h. omega (arith, h.1)) (unsigned places n) (unsigned-are places n (fits n (let w = wide (pos n) small in omega (arith, w)))).all
number-ascii places (negsuc n) small =
    (omega arith, each-map IsPart (λ b. b < 128) (λ b h. omega (arith, h.1)) (unsigned places (suc n)) (unsigned-are places (suc n) (fits (suc n) (let w = wide (negsuc n) small in omega (arith, w)))).all)

pub no-infinity : (places : ℕ) (z : ℤ) → mag z < 2 ^ 63 → number places z ≡ codes "+Inf" → ⊥
no-infinity places (pos n) small e =
    let h : IsDigit 43 = subst BeginsDigit e (unsigned-are places n (fits n (let w = wide (pos n) small in omega (arith, w)))).begin in
    absurd (omega (arith, h.0))
no-infinity places (negsuc n) small e = absurd (let g : 45 ≡ 43 = ap (λ l. get_or l 0 0) e in omega (arith, g))
