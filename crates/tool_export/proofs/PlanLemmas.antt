-- Words are those of at most one plan.
use Rattle.std.proofs.Common.{◌≡◌, ◌≢◌, ℕ, zero, suc, ℤ, pos, ◌<◌, ◌≤◌, ◌^◌, List, [], ◌∷◌, ◌++◌, refl, sym, ◌∙◌, ap, subst, arith, codes}
use Rattle.std.proofs.Common.{decimal, FitsSigned, w64}
use Rattle.std.specs.Prelude.{Option, None, Some, IfSome, MatchOption, get_or}
use Rattle.std.specs.Fmt.{signed_decimal}
use Rattle.std.specs.List.{AllByRecursion}
use Rattle.std.specs.Str.Parse.{AllDigits}
use Rattle.std.proofs.lemmas.Fmt.{decimal_injective, decimal_is_IsNumeral}
use Rattle.std.proofs.lemmas.Str.Parse.{digit_from_value}
use Rattle.metrics.specs.declared.handles.Update.{Update}
use Rattle.metrics.specs.declared.handles.Update.TheVariants.{Increment, Absolute, Add, Subtract, Set, Record}
use Rattle.tool_grammar.specs.Cuts.{StartsAt}
use Rattle.tool_grammar.specs.Kinds.{HasKind, kinds_word}
use Rattle.tool_grammar.specs.Printing.{samples_text, more_samples}
use Rattle.tool_grammar.proofs.KindsLemmas.{kinds_in}
use Rattle.tool_grammar.proofs.WordsLemmas.{before_same}
use Rattle.tool_export.specs.declared.plans.ExportPlan.{ExportPlan}
use Rattle.tool_export.specs.Plans.{watched_word, timeout_word, AreSamples, IsAllowed, plan_words}
use Rattle.tool_export.proofs.BoundsLemmas.{below_word, lacks_comma}
use Rattle.tool_export.proofs.SpellingLemmas.{same_update}

-- ---- the kinds

kinds_read : (kinds : ℕ) → kinds ≤ 7 → kinds_in (watched_word kinds) ≡ kinds
kinds_read (suc (suc (suc (suc (suc (suc (suc (suc kinds)))))))) le = absurd (omega (arith, le))
kinds_read kinds le = refl

same_watched : (v w : ℕ) → v ≤ 7 → w ≤ 7 → watched_word v ≡ watched_word w → v ≡ w
same_watched v w h g e = sym (kinds_read v h) ∙ ap kinds_in e ∙ kinds_read w g

-- some kind has a letter, so its word is no dash
named : (kinds : ℕ) → HasKind kinds → watched_word kinds ≡ kinds_word kinds
named zero h = absurd (omega (arith, h.0))
named (suc (suc (suc (suc (suc (suc (suc (suc kinds)))))))) h = absurd (omega (arith, h.1))
named kinds h = refl

no_word : (word : List ℕ) → word ≢ codes "-" → ((kinds : ℕ) → HasKind kinds → word ≡ kinds_word kinds → ⊥) → (kinds : ℕ)
    → kinds ≤ 7 → word ≡ watched_word kinds → ⊥
no_word word other none zero le is = other is
no_word word other none (suc kinds) le is =
    let has : HasKind (suc kinds) = (omega arith, le) in none (suc kinds) has (is ∙ named (suc kinds) has)

pub letters_or_dash : (found : Option ℕ) (word : List ℕ) → word ≢ codes "-"
    → MatchOption found ((kinds : ℕ) → HasKind kinds → word ≡ kinds_word kinds → ⊥)
    (λ kinds. HasKind kinds × (word ≡ kinds_word kinds))
    → MatchOption found ((kinds : ℕ) → kinds ≤ 7 → word ≡ watched_word kinds → ⊥)
    (λ kinds. (kinds ≤ 7) × (word ≡ watched_word kinds))
letters_or_dash (Some kinds) word other (has, is) = (has.1, is ∙ sym (named kinds has))
letters_or_dash None word other none = no_word word other none

-- ---- the timeout

no_dash : (n : ℕ) → n < 2 ^ 64 → decimal n ≡ codes "-" → ⊥
no_dash n h e =
    let digits : AllDigits 10 (45 ∷ []) = subst (AllDigits 10) e (decimal_is_IsNumeral n h).0.1 in
    let range = digit_from_value 45 digits.0 in
    omega (arith, range.0, range.1)

same_timeout : (s t : Option ℕ) → IfSome s (λ n. n < 2 ^ 64) → IfSome t (λ n. n < 2 ^ 64)
    → timeout_word s ≡ timeout_word t → s ≡ t
same_timeout None None h g e = refl
same_timeout None (Some n) h g e = absurd (no_dash n g (sym e))
same_timeout (Some m) None h g e = absurd (no_dash m h e)
same_timeout (Some m) (Some n) h g e = ap Some (decimal_injective m n h g e)

-- ---- the bounds

abbrev level_in : Update → ℤ
level_in (Set n) = n
level_in (Add n) = n
level_in (Subtract n) = n
level_in (Record n) = n
level_in (Increment n) = pos n
level_in (Absolute n) = pos n

same_number : (m n : ℤ) → FitsSigned w64 m → FitsSigned w64 n → signed_decimal m ≡ signed_decimal n → m ≡ n
same_number m n h g e = ap level_in (same_update (Set m) (Set n) h g refl e)

starts : (ns : List ℤ) → StartsAt 44 (more_samples ns)
starts [] = tt
starts (n ∷ ns) = refl

same_more : (ms ns : List ℤ) → AllByRecursion (FitsSigned w64) ms → AllByRecursion (FitsSigned w64) ns
    → more_samples ms ≡ more_samples ns → ms ≡ ns
same_more [] [] h g e = refl
same_more [] (n ∷ ns) h g e = absurd (cc)
same_more (m ∷ ms) [] h g e = absurd (cc)
same_more (m ∷ ms) (n ∷ ns) h g e =
    let tail : signed_decimal m ++ more_samples ms ≡ signed_decimal n ++ more_samples ns = cc in
    let parts = before_same 44 (signed_decimal m) (signed_decimal n) (more_samples ms) (more_samples ns)
    (lacks_comma m h.0) (lacks_comma n g.0) (starts ms) (starts ns) tail in
    let first = same_number m n h.0 g.0 parts.0 in
    let rest = same_more ms ns h.1 g.1 parts.1 in
    λ i. first i ∷ rest i

same_samples : (ms ns : List ℤ) → AreSamples ms → AreSamples ns → samples_text ms ≡ samples_text ns → ms ≡ ns
same_samples [] ns h g e = absurd (omega (arith, h.0))
same_samples (m ∷ ms) [] h g e = absurd (omega (arith, g.0))
same_samples (m ∷ ms) (n ∷ ns) h g e =
    let parts = before_same 44 (signed_decimal m) (signed_decimal n) (more_samples ms) (more_samples ns)
    (lacks_comma m h.1.0) (lacks_comma n g.1.0) (starts ms) (starts ns) e in
    let first = same_number m n h.1.0 g.1.0 parts.0 in
    let rest = same_more ms ns h.1.1 g.1.1 parts.1 in
    λ i. first i ∷ rest i

-- ---- all words

pub one_plan : (a b : ExportPlan) → IsAllowed a → IsAllowed b → plan_words a ≡ plan_words b → a ≡ b
one_plan a b (count, few, time, bounds) (number, most, limit, others) e =
    let word : ℕ → List (List ℕ) → List ℕ = λ n words. get_or words n [] in
    let s = decimal_injective a.shards b.shards (below_word a.shards count) (below_word b.shards number) (ap (word 0) e) in
    let w = same_watched a.watched b.watched few most (ap (word 1) e) in
    let t = same_timeout a.idle_timeout b.idle_timeout time limit (ap (word 2) e) in
    let n = same_samples a.bounds b.bounds bounds others (ap (word 3) e) in
    λ i. record { shards = s i; watched = w i; idle_timeout = t i; bounds = n i }
