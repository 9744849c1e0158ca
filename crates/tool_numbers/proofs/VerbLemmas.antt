-- The word of an update names one kind of update.
use Rattle.std.proofs.Common.{if◌then◌else◌, ◌≡◌, ◌∙◌, ℕ, ◌<◌, ◌^◌, List, codes, FitsSigned, w64, refl, ap, sym, arith}
use Rattle.std.specs.Prelude.{ℤ, pos, bytes_eq}
use Rattle.metrics.specs.declared.handles.Update.{Update}
use Rattle.metrics.specs.declared.handles.Update.TheVariants.{Increment, Absolute, Add, Subtract, Set, Record}
use Rattle.tool_grammar.specs.Grammar.{update_word}
use Rattle.tool_numbers.specs.Numerals.{IsNumber, IsAmount}

abbrev verb : Update → ℕ
verb (Increment n) = 0
verb (Absolute n) = 1
verb (Add n) = 2
verb (Subtract n) = 3
verb (Set n) = 4
verb (Record n) = 5

abbrev verb_in : List ℕ → ℕ
verb_in w = if bytes_eq w (codes "increment") then 0 else (if bytes_eq w (codes "absolute") then 1 else (if bytes_eq w (codes "add") then 2 else (if bytes_eq w (codes "sub") then 3 else (if bytes_eq w (codes "set") then 4 else (5)))))

verb-read : (by : Update) → verb_in (update_word by) ≡ verb by
verb-read (Increment n) = refl
verb-read (Absolute n) = refl
verb-read (Add n) = refl
verb-read (Subtract n) = refl
verb-read (Set n) = refl
verb-read (Record n) = refl

same-verb : (word : List ℕ) (u by : Update) → word ≡ update_word u → word ≡ update_word by → verb u ≡ verb by
same-verb word u by is was = sym (verb-read u) ∙ ap verb_in (sym is ∙ was) ∙ verb-read by

pub no_increment : (places : ℕ) (word amount : List ℕ) → word ≡ codes "increment" → ((n : ℕ) → n < 2 ^ 64 → IsNumber places (pos n) amount → ⊥)
    → (by : Update) → IsAmount places by amount → word ≡ update_word by → ⊥
no_increment places word amount is none (Increment n) h e = none n h.0 h.1
no_increment places word amount is none (Absolute n) h e = absurd (omega (arith, same-verb word (Increment 0) (Absolute n) is e))
no_increment places word amount is none (Add n) h e = absurd (omega (arith, same-verb word (Increment 0) (Add n) is e))
no_increment places word amount is none (Subtract n) h e = absurd (omega (arith, same-verb word (Increment 0) (Subtract n) is e))
no_increment places word amount is none (Set n) h e = absurd (omega (arith, same-verb word (Increment 0) (Set n) is e))
no_increment places word amount is none (Record n) h e = absurd (omega (arith, same-verb word (Increment 0) (Record n) is e))

pub no_absolute : (places : ℕ) (word amount : List ℕ) → word ≡ codes "absolute" → ((n : ℕ) → n < 2 ^ 64 → IsNumber places (pos n) amount → ⊥)
    → (by : Update) → IsAmount places by amount → word ≡ update_word by → ⊥
no_absolute places word amount is none (Increment n) h e = absurd (omega (arith, same-verb word (Absolute 0) (Increment n) is e))
no_absolute places word amount is none (Absolute n) h e = none n h.0 h.1
no_absolute places word amount is none (Add n) h e = absurd (omega (arith, same-verb word (Absolute 0) (Add n) is e))
no_absolute places word amount is none (Subtract n) h e = absurd (omega (arith, same-verb word (Absolute 0) (Subtract n) is e))
no_absolute places word amount is none (Set n) h e = absurd (omega (arith, same-verb word (Absolute 0) (Set n) is e))
no_absolute places word amount is none (Record n) h e = absurd (omega (arith, same-verb word (Absolute 0) (Record n) is e))

pub no_add : (places : ℕ) (word amount : List ℕ) → word ≡ codes "add" → ((z : ℤ) → FitsSigned w64 z → IsNumber places z amount → ⊥)
    → (by : Update) → IsAmount places by amount → word ≡ update_word by → ⊥
no_add places word amount is none (Increment n) h e = absurd (omega (arith, same-verb word (Add (pos 0)) (Increment n) is e))
no_add places word amount is none (Absolute n) h e = absurd (omega (arith, same-verb word (Add (pos 0)) (Absolute n) is e))
no_add places word amount is none (Add n) h e = none n h.0 h.1
no_add places word amount is none (Subtract n) h e = absurd (omega (arith, same-verb word (Add (pos 0)) (Subtract n) is e))
no_add places word amount is none (Set n) h e = absurd (omega (arith, same-verb word (Add (pos 0)) (Set n) is e))
no_add places word amount is none (Record n) h e = absurd (omega (arith, same-verb word (Add (pos 0)) (Record n) is e))

pub no_sub : (places : ℕ) (word amount : List ℕ) → word ≡ codes "sub" → ((z : ℤ) → FitsSigned w64 z → IsNumber places z amount → ⊥)
    → (by : Update) → IsAmount places by amount → word ≡ update_word by → ⊥
no_sub places word amount is none (Increment n) h e = absurd (omega (arith, same-verb word (Subtract (pos 0)) (Increment n) is e))
no_sub places word amount is none (Absolute n) h e = absurd (omega (arith, same-verb word (Subtract (pos 0)) (Absolute n) is e))
no_sub places word amount is none (Add n) h e = absurd (omega (arith, same-verb word (Subtract (pos 0)) (Add n) is e))
no_sub places word amount is none (Subtract n) h e = none n h.0 h.1
no_sub places word amount is none (Set n) h e = absurd (omega (arith, same-verb word (Subtract (pos 0)) (Set n) is e))
no_sub places word amount is none (Record n) h e = absurd (omega (arith, same-verb word (Subtract (pos 0)) (Record n) is e))

pub no_set : (places : ℕ) (word amount : List ℕ) → word ≡ codes "set" → ((z : ℤ) → FitsSigned w64 z → IsNumber places z amount → ⊥)
    → (by : Update) → IsAmount places by amount → word ≡ update_word by → ⊥
no_set places word amount is none (Increment n) h e = absurd (omega (arith, same-verb word (Set (pos 0)) (Increment n) is e))
no_set places word amount is none (Absolute n) h e = absurd (omega (arith, same-verb word (Set (pos 0)) (Absolute n) is e))
no_set places word amount is none (Add n) h e = absurd (omega (arith, same-verb word (Set (pos 0)) (Add n) is e))
no_set places word amount is none (Subtract n) h e = absurd (omega (arith, same-verb word (Set (pos 0)) (Subtract n) is e))
no_set places word amount is none (Set n) h e = none n h.0 h.1
no_set places word amount is none (Record n) h e = absurd (omega (arith, same-verb word (Set (pos 0)) (Record n) is e))

pub no_record : (places : ℕ) (word amount : List ℕ) → word ≡ codes "record" → ((z : ℤ) → FitsSigned w64 z → IsNumber places z amount → ⊥)
    → (by : Update) → IsAmount places by amount → word ≡ update_word by → ⊥
no_record places word amount is none (Increment n) h e = absurd (omega (arith, same-verb word (Record (pos 0)) (Increment n) is e))
no_record places word amount is none (Absolute n) h e = absurd (omega (arith, same-verb word (Record (pos 0)) (Absolute n) is e))
no_record places word amount is none (Add n) h e = absurd (omega (arith, same-verb word (Record (pos 0)) (Add n) is e))
no_record places word amount is none (Subtract n) h e = absurd (omega (arith, same-verb word (Record (pos 0)) (Subtract n) is e))
no_record places word amount is none (Set n) h e = absurd (omega (arith, same-verb word (Record (pos 0)) (Set n) is e))
no_record places word amount is none (Record n) h e = none n h.0 h.1

pub no_verb : (places : ℕ) (word amount : List ℕ) → (word ≡ codes "increment" → ⊥) → (word ≡ codes "absolute" → ⊥) → (word ≡ codes "add" → ⊥) → (word ≡ codes "sub" → ⊥) → (word ≡ codes "set" → ⊥) → (word ≡ codes "record" → ⊥)
    → (by : Update) → IsAmount places by amount → word ≡ update_word by → ⊥
no_verb places word amount a b c d e f (Increment n) h is = a is
no_verb places word amount a b c d e f (Absolute n) h is = b is
no_verb places word amount a b c d e f (Add n) h is = c is
no_verb places word amount a b c d e f (Subtract n) h is = d is
no_verb places word amount a b c d e f (Set n) h is = e is
no_verb places word amount a b c d e f (Record n) h is = f is

pub ruleset verbs = (no_increment, no_absolute, no_add, no_sub, no_set, no_record, no_verb)
