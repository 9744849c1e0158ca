-- Numbers with a comma between two.
use Rattle.std.proofs.Common.{◌≡◌, ◌≢◌, ℕ, suc, ℤ, pos, negsuc, ◌<◌, ◌≤◌, ◌^◌, ◌⊎◌, inl}
use Rattle.std.proofs.Common.{inr, List, [], ◌∷◌, ◌++◌, refl, sym, ◌∙◌, ap, arith, decimal, length, FitsSigned}
use Rattle.std.proofs.Common.{w64, true≢false, append_assoc, append-nil, flat_map}
use Rattle.std.specs.Prelude.{Bool, true, false, ◌&&◌, nat_le, Result, Ok, Err, IfOk, MatchResult}
use Rattle.std.specs.Fmt.{signed_decimal}
use Rattle.std.specs.List.{AllByRecursion}
use Rattle.std.specs.Str.Parse.{AllDigits}
use Rattle.std.proofs.lemmas.Bool.{leb-true}
use Rattle.std.proofs.lemmas.Int.{ints}
use Rattle.std.proofs.lemmas.Fmt.{decimal_is_IsNumeral}
use Rattle.std.proofs.lemmas.Str.Parse.{digit_from_value}
use Rattle.std.proofs.lemmas.List.Elements.{All-cons, All-from_recursion}
use Rattle.metrics_registry.specs.Held.{is_shard_count}
use Rattle.tool_grammar.specs.Cuts.{Lacks}
use Rattle.tool_grammar.specs.Printing.{samples_text, more_samples}
use Rattle.tool_grammar.proofs.WordsLemmas.{first_same, not_cut}
use Rattle.tool_export.specs.Plans.{AreSamples}

-- ---- shards

and_right : (a b : Bool) → (a && b) ≡ true → b ≡ true
and_right true b h = h
and_right false b h = absurd (true≢false (sym h))

le_of : (a b : ℕ) → nat_le a b ≡ true → a ≤ b
le_of a b h = leb-true a b h

pub below_word : (n : ℕ) → is_shard_count n ≡ true → n < 2 ^ 64
below_word n h = let small : n ≤ 1024 = le_of n 1024 (and_right _ (nat_le n 1024) h) in omega (arith, small)

-- ---- a number has no comma

digits_lack : (ds : List ℕ) → AllDigits 10 ds → AllByRecursion (λ x. x ≢ 44) ds
digits_lack [] h = tt
digits_lack (d ∷ ds) h =
    let range = digit_from_value d h.0 in
    let differs : d ≢ 44 = λ e. absurd (omega (arith, range.0, range.1, e)) in
    (differs, digits_lack ds h.1)

lacks_decimal : (n : ℕ) → n < 2 ^ 64 → Lacks 44 (decimal n)
lacks_decimal n h = All-from_recursion _ (decimal n) (digits_lack (decimal n) (decimal_is_IsNumeral n h).0.1)

pub lacks_comma : (n : ℤ) → FitsSigned w64 n → Lacks 44 (signed_decimal n)
lacks_comma (pos n) h = lacks_decimal n (omega (arith, ints, h))
lacks_comma (negsuc n) h = All-cons (λ x. x ≢ 44) 45 (decimal (suc n)) (λ e. absurd (omega (arith, e)))
    (lacks_decimal (suc n) (omega (arith, ints, h)))

-- ---- the next number

-- a number, and then nothing or a comma and further numbers
abbrev pub BeginsWith : List ℕ → ℤ → Type 0
BeginsWith rest n = (rest ≡ signed_decimal n)
    ⊎ ((others : List ℤ) × AreSamples others × (rest ≡ signed_decimal n ++ 44 ∷ samples_text others))

next_number : (rest : List ℕ) (ns : List ℤ) → AreSamples ns → rest ≡ samples_text ns → (n : ℤ) × FitsSigned w64 n
    × BeginsWith rest n
next_number rest [] h e = absurd (omega (arith, h.0))
next_number rest (n ∷ []) h e = (n, h.1.0, inl (e ∙ append-nil (signed_decimal n)))
next_number rest (n ∷ m ∷ ns) h e = (n, h.1.0, inr (m ∷ ns, (omega arith, h.1.1), e))

-- ---- so far

-- numbers, a comma after each
abbrev pub ended_numbers : List ℤ → List ℕ
ended_numbers ns = flat_map (λ n. signed_decimal n ++ 44 ∷ []) ns

-- how far a word of numbers is read
pub record BoundsSoFar (word rest : List ℕ) (ns : List ℤ) : Type 0 where
  pub fit : AllByRecursion (FitsSigned w64) ns
  pub whole : word ≡ ended_numbers ns ++ rest
  pub left : (ms : List ℤ) → AreSamples ms → word ≡ samples_text ms → (others : List ℤ) × AreSamples others
      × (rest ≡ samples_text others)

fit_push : (ns : List ℤ) (n : ℤ) → AllByRecursion (FitsSigned w64) ns → FitsSigned w64 n
    → AllByRecursion (FitsSigned w64) (ns ++ n ∷ [])
fit_push [] n h f = (f, tt)
fit_push (m ∷ ns) n h f = (h.0, fit_push ns n h.1 f)

ended_push : (ns : List ℤ) (n : ℤ) (rest : List ℕ) → ended_numbers (ns ++ n ∷ []) ++ rest ≡ ended_numbers ns
    ++ (signed_decimal n ++ 44 ∷ rest)
ended_push [] n rest = ap (λ k. k ++ rest) (append-nil (signed_decimal n ++ 44 ∷ [])) ∙ append_assoc (signed_decimal n)
    (44 ∷ []) rest
ended_push (m ∷ ns) n rest =
    append_assoc (signed_decimal m ++ 44 ∷ []) (ended_numbers (ns ++ n ∷ [])) rest
    ∙ ap (λ k. (signed_decimal m ++ 44 ∷ []) ++ k) (ended_push ns n rest)
    ∙ sym (append_assoc (signed_decimal m ++ 44 ∷ []) (ended_numbers ns) (signed_decimal n ++ 44 ∷ rest))

module _ (word rest digits behind : List ℕ) (ns : List ℤ) (so : BoundsSoFar word rest ns)
    (cut : rest ≡ digits ++ 44 ∷ behind) (lacks : Lacks 44 digits) where
  -- the number before the comma, and those after it
  cut_numbers : (ms : List ℤ) → AreSamples ms → word ≡ samples_text ms → (n : ℤ) × FitsSigned w64 n
      × (digits ≡ signed_decimal n) × ((others : List ℤ) × AreSamples others × (behind ≡ samples_text others))
  cut_numbers ms h e =
      let (others, are, is) = so.left ms h e in
      let (n, fits, begins) = next_number rest others are is in
      case n fits begins
    where
      case : (n : ℤ) → FitsSigned w64 n → BeginsWith rest n → (n : ℤ) × FitsSigned w64 n
          × (digits ≡ signed_decimal n) × ((others : List ℤ) × AreSamples others × (behind ≡ samples_text others))
      case n fits (inl alone) = absurd (not_cut 44 (signed_decimal n) digits behind (lacks_comma n fits) (sym alone ∙ cut))
      case n fits (inr (others, are, is)) =
          let both =
          first_same 44 rest digits behind (signed_decimal n) (samples_text others) lacks (lacks_comma n fits) cut is in
          (n, fits, both.0, (others, are, both.1))

  pub no_bound : ((n : ℤ) → FitsSigned w64 n → digits ≡ signed_decimal n → ⊥) → (ms : List ℤ) → AreSamples ms
      → word ≡ samples_text ms → ⊥
  no_bound none ms h e = let (n, fits, is, others) = cut_numbers ms h e in none n fits is

  pub bounds_more : (n : ℤ) → FitsSigned w64 n → digits ≡ signed_decimal n → BoundsSoFar word behind (ns ++ n ∷ [])
  bounds_more n fits is = record {
    fit = fit_push ns n so.fit fits;
    whole = so.whole ∙ ap (λ k. ended_numbers ns ++ k) (cut ∙ ap (λ k. k ++ 44 ∷ behind) is)
        ∙ sym (ended_push ns n behind);
    left = λ ms h e. let (m, fit, same, others) = cut_numbers ms h e in others;
  }

-- ---- the last number

pub no_last : (word rest : List ℕ) (ns : List ℤ) → BoundsSoFar word rest ns
    → ((front back : List ℕ) → rest ≡ front ++ 44 ∷ back → ⊥)
    → ((n : ℤ) → FitsSigned w64 n → rest ≡ signed_decimal n → ⊥)
    → (ms : List ℤ) → AreSamples ms → word ≡ samples_text ms → ⊥
no_last word rest ns so whole none ms h e =
    let (others, are, is) = so.left ms h e in
    let (n, fits, begins) = next_number rest others are is in
    case n fits begins
  where
    case : (n : ℤ) → FitsSigned w64 n → BeginsWith rest n → ⊥
    case n fits (inl alone) = none n fits alone
    case n fits (inr (others, are, is)) = whole (signed_decimal n) (samples_text others) is

more_is : (ns : List ℤ) (n : ℤ) → more_samples (ns ++ n ∷ []) ≡ 44 ∷ samples_text (ns ++ n ∷ [])
more_is [] n = refl
more_is (m ∷ ns) n = refl

last_number : (ns : List ℤ) (n : ℤ) → ended_numbers ns ++ signed_decimal n ≡ samples_text (ns ++ n ∷ [])
last_number [] n = sym (append-nil (signed_decimal n))
last_number (m ∷ ns) n =
    append_assoc (signed_decimal m ++ 44 ∷ []) (ended_numbers ns) (signed_decimal n)
    ∙ append_assoc (signed_decimal m) (44 ∷ []) (ended_numbers ns ++ signed_decimal n)
    ∙ ap (λ k. signed_decimal m ++ 44 ∷ k) (last_number ns n)
    ∙ ap (λ k. signed_decimal m ++ k) (sym (more_is ns n))

pushed_length : (ns : List ℤ) (n : ℤ) → 0 < length (ns ++ n ∷ [])
pushed_length [] n = omega arith
pushed_length (m ∷ ns) n = omega arith

pub bounds_end : (word rest : List ℕ) (ns : List ℤ) (n : ℤ) → BoundsSoFar word rest ns → FitsSigned w64 n
    → rest ≡ signed_decimal n → AreSamples (ns ++ n ∷ []) × (word ≡ samples_text (ns ++ n ∷ []))
bounds_end word rest ns n so fits is =
    ((pushed_length ns n, fit_push ns n so.fit fits), so.whole ∙ ap (λ k. ended_numbers ns ++ k) is ∙ last_number ns n)

-- the numbers so far with one more, unless one found no memory
pub bounds_pushed : {V E : Type 0} (few more : Result V E) (items : V → List ℤ) (ns : List ℤ) (n m : ℤ) → IfOk few (λ v. items v ≡ ns)
    → IfOk more (λ v. MatchResult few (λ w. items v ≡ items w ++ m ∷ []) (λ e. ⊥)) → m ≡ n → IfOk more (λ v. items v ≡ ns ++ n ∷ [])
bounds_pushed few (Err e) items ns n m so pushed same = tt
bounds_pushed (Err d) (Ok v) items ns n m so pushed same = absurd pushed
bounds_pushed (Ok w) (Ok v) items ns n m so pushed same = pushed ∙ ap (λ xs. xs ++ m ∷ []) so ∙ ap (λ k. ns ++ k ∷ []) same
