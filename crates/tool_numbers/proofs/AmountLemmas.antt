-- A word is one amount at most.
use Rattle.std.proofs.Common.{◌≡◌, ◌≢◌, ◌∙◌, ℕ, zero, suc, ◌+◌, ◌*◌, ◌^◌, ◌<◌, ◌≤◌, Bool, true, false, List, [], ◌∷◌, ◌++◌, codes, decimal, length, FitsSigned, w64, inl, inr, ◌⊎◌, refl, ap, sym, subst, arith, append-nil}
use Rattle.std.specs.Prelude.{ℤ, pos, negsuc, neg_ℤ}
use Rattle.std.specs.Fmt.{signed_decimal}
use Rattle.std.proofs.lemmas.Int.{ints}
use Rattle.std.proofs.lemmas.Fmt.{decimal_injective, decimal_digit}
use Rattle.metrics.specs.declared.handles.Update.{Update}
use Rattle.metrics.specs.declared.handles.Update.TheVariants.{Increment, Absolute, Add, Subtract, Set, Record}
use Rattle.metrics.specs.declared.calls.Call.{Call}
use Rattle.metrics.specs.declared.calls.Call.TheVariants as call
use Rattle.tool_grammar.specs.Cuts.{Lacks}
use Rattle.tool_grammar.specs.Grammar.{update_word, amount_word, IsInRange, spelling as call_spelling}
use Rattle.tool_grammar.proofs.CallLemmas.{call_same}
use Rattle.tool_numbers.specs.Numerals.{Numeral, none, numeral_word, IsNumeral, HasRoom, IsWorth, signed, IsNumber, amount_of, IsAmount, digits_of, down}
use Rattle.tool_numbers.proofs.NumeralLemmas.{numeral-same, numeral-lacks, no-digit, out, decimal-digits, tail-same}
use Rattle.tool_numbers.proofs.ShiftLemmas.{power-some, cancels}

-- ---- numbers

-- a number without its sign
abbrev size : ℤ → ℕ
size (pos n) = n
size (negsuc n) = suc n

size-signed : (b : Bool) (n : ℕ) → size (signed b n) ≡ n
size-signed false n = refl
size-signed true zero = refl
size-signed true (suc n) = refl

module _ (places : ℕ) (word : List ℕ) (n : Numeral) (fits : IsNumeral n) (is : word ≡ numeral_word n) where
  pub number-found : word ≢ codes "-0" → HasRoom places n → (units : ℕ) → IsWorth places n units → IsNumber places (signed n.minus units) word
  number-found other room units worth = record {
    numeral = n;
    units = units;
    fits = fits;
    is = is;
    other = other;
    room = room;
    worth = worth;
    sign = refl;
  }

  -- the word is of no other number
  same : (z : ℤ) (h : IsNumber places z word) → h.numeral ≡ n
  same z h = numeral-same h.numeral n h.fits fits (sym h.is ∙ is)

  pub no-room : (HasRoom places n → ⊥) → (z : ℤ) → IsNumber places z word → ⊥
  no-room fails z h = fails (subst (HasRoom places) (same z h) h.room)

  pub no-worth : ((units : ℕ) → units < 2 ^ 64 → IsWorth places n units → ⊥)
      → (minus : Bool) (units : ℕ) → units < 2 ^ 64 → IsNumber places (signed minus units) word → ⊥
  no-worth fails minus units small h =
      let sizes : units ≡ h.units = sym (size-signed minus units) ∙ ap size h.sign ∙ size-signed h.numeral.minus h.units in
      fails h.units (omega (arith, sizes, small)) (subst (λ m. IsWorth places m h.units) (same (signed minus units) h) h.worth)

pub number-one : (places : ℕ) (y z : ℤ) (word : List ℕ) → IsNumber places y word → IsNumber places z word → y ≡ z
number-one places y z word h g =
    let n = g.numeral in
    let same : h.numeral ≡ n = numeral-same h.numeral n h.fits g.fits (sym h.is ∙ g.is) in
    let worth : IsWorth places n h.units = subst (λ m. IsWorth places m h.units) same h.worth in
    let units : h.units ≡ g.units = cancels h.units g.units (10 ^ (length n.fraction + down n.power)) (power-some (length n.fraction + down n.power)) (worth ∙ sym g.worth) in
    h.sign ∙ (λ i. signed (same i).minus (units i)) ∙ sym g.sign

-- ---- whole numbers in their printed form

abbrev plain : Bool → ℕ → Numeral
plain minus n = record { minus = minus; whole = n; fraction = []; power = none }

worth-plain : (minus : Bool) (n : ℕ) → IsWorth 0 (plain minus n) n
worth-plain minus n = grind arith

not-minus-zero : (n : ℕ) → n < 2 ^ 64 → decimal n ≢ codes "-0"
not-minus-zero n small e = no-digit 45 (48 ∷ []) (decimal n) (out 45 (inl (omega arith))) (decimal-digits n small) e

not-zero : (n : ℕ) → suc n < 2 ^ 64 → 45 ∷ decimal (suc n) ≢ codes "-0"
not-zero n small e =
    let zero-text : decimal (suc n) ≡ decimal 0 = tail-same 45 45 (decimal (suc n)) (48 ∷ []) e ∙ sym (decimal_digit 0 (omega arith)) in
    omega (arith, decimal_injective (suc n) 0 small (omega arith) zero-text)

pub plain-count : (word : List ℕ) (n : ℕ) → n < 2 ^ 64 → word ≡ decimal n → IsNumber 0 (pos n) word
plain-count word n small is = record {
  numeral = plain false n;
  units = n;
  fits = (small, (tt, omega arith), tt);
  is = is ∙ sym (append-nil (decimal n)) ∙ sym (append-nil (decimal n ++ []));
  other = λ e. not-minus-zero n small (sym is ∙ e);
  room = λ h. omega arith;
  worth = worth-plain false n;
  sign = refl;
}

pub plain-level : (word : List ℕ) (z : ℤ) → FitsSigned w64 z → word ≡ signed_decimal z → IsNumber 0 z word
plain-level word (pos n) fits is = plain-count word n (omega (arith, ints, fits)) is
plain-level word (negsuc n) fits is = record {
  numeral = plain true (suc n);
  units = suc n;
  fits = (omega (arith, ints, fits), (tt, omega arith), tt);
  is = is ∙ sym (append-nil (45 ∷ decimal (suc n))) ∙ sym (append-nil ((45 ∷ decimal (suc n)) ++ []));
  other = λ e. not-zero n (omega (arith, ints, fits)) (sym is ∙ e);
  room = λ h. omega arith;
  worth = worth-plain true (suc n);
  sign = refl;
}

-- ---- amounts

pub amount-lacks : (places : ℕ) (by : Update) (amount : List ℕ) → IsAmount places by amount → Lacks 32 amount
amount-lacks places by amount h =
    let n = h.1 in
    subst (Lacks 32) (sym n.is) (numeral-lacks 32 (omega arith) n.numeral n.fits)

abbrev update_in : Call → Update
update_in (call.Update h u) = u
update_in (call.Describe kind name unit text) = Increment 0
update_in (call.Register kind key) = Increment 0
update_in (call.Snapshot b) = Increment 0
update_in (call.SnapshotWith b reset) = Increment 0

printed : (by : Update) → amount_word by ≡ signed_decimal (amount_of by)
printed (Increment n) = refl
printed (Absolute n) = refl
printed (Add z) = refl
printed (Subtract z) = refl
printed (Set z) = refl
printed (Record z) = refl

pub amount-same : (places : ℕ) (by u : Update) (amount : List ℕ) → IsAmount places by amount → IsAmount places u amount
    → update_word by ≡ update_word u → by ≡ u
amount-same places by u amount h g w =
    let numbers : amount_of by ≡ amount_of u = number-one places (amount_of by) (amount_of u) amount h.1 g.1 in
    let amounts : amount_word by ≡ amount_word u = printed by ∙ ap signed_decimal numbers ∙ sym (printed u) in
    ap update_in (call_same (call_spelling (call.Update 0 by)) (call.Update 0 by) (call.Update 0 u) ((omega arith, h.0), refl)
    ((omega arith, g.0), λ i. w i ++ 32 ∷ (decimal 0 ++ 32 ∷ amounts i)))
