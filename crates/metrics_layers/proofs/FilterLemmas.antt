-- The automaton's result is the test in a filter's meaning.
use Rattle.std.proofs.Common.{◌≡◌, ℕ, Bool, true, false, List, [], ◌∷◌, ◌++◌, refl, ap, sym, ◌∙◌, arith}
use Rattle.std.specs.Prelude.{IsTrue, ◌↔◌}
use Rattle.std.specs.Bool.{Decides}
use Rattle.std.specs.Str.{str_to_ascii_lowercase}
use Rattle.std.specs.Char.{to_ascii_lowercase}
use Rattle.std.proofs.lemmas.Bool.Decides.{nat_tests}
use Rattle.metrics.specs.Layers.{folded, Matches, matches}
use Rattle.metrics.proofs.LayersLemmas.{matches-Decides}
use Rattle.prefix_match.specs.Substring.{Patterns, Occurs, lowered, lowered_byte}

same_byte : (b : ℕ) → lowered_byte true b ≡ to_ascii_lowercase b
same_byte b = grind (arith, nat_tests)

lowered_bytes : (bs : List ℕ) → lowered true bs ≡ str_to_ascii_lowercase bs
lowered_bytes [] = refl
lowered_bytes (b ∷ bs) = rw (same_byte b) (ap (λ t. to_ascii_lowercase b ∷ t) (lowered_bytes bs))

kept_bytes : (bs : List ℕ) → lowered false bs ≡ bs
kept_bytes [] = refl
kept_bytes (b ∷ bs) = ap (λ t. b ∷ t) (kept_bytes bs)

-- both fold a text alike
lowered_is_folded : (fold : Bool) (bs : List ℕ) → lowered fold bs ≡ folded fold bs
lowered_is_folded true bs = lowered_bytes bs
lowered_is_folded false bs = kept_bytes bs

to_matches : (s : Patterns) (name : List ℕ) → Occurs s name → Matches s.fold_case s.listed name
to_matches s name h =
    (h.0, h.3.0, (h.1, h.2, sym (lowered_is_folded s.fold_case name) ∙ h.3.1 ∙ ap (λ t. (h.1 ++ t) ++ h.2) (lowered_is_folded s.fold_case h.0)))

to_occurs : (s : Patterns) (name : List ℕ) → Matches s.fold_case s.listed name → Occurs s name
to_occurs s name h =
    (h.0, h.2.0, h.2.1, (h.1, lowered_is_folded s.fold_case name ∙ h.2.2 ∙ ap (λ t. (h.2.0 ++ t) ++ h.2.1) (sym (lowered_is_folded s.fold_case h.0))))

same_answer : (b c : Bool) (A : Type 0) (B : Type 0) → (IsTrue b ↔ A) → Decides c B → (A → B) → (B → A) → b ≡ c
same_answer true true A B h d f g = refl
same_answer false false A B h d f g = refl
same_answer true false A B h d f g = sym (d.1 (f (h.0 refl)))
same_answer false true A B h d f g = h.1 (g (d.0 refl))

-- a set's result is the test of the filter
pub answer_is_matches : (answer : Bool) (s : Patterns) (name : List ℕ) → (IsTrue answer ↔ Occurs s name) → answer ≡ matches s.fold_case s.listed name
answer_is_matches answer s name h =
    same_answer answer (matches s.fold_case s.listed name) (Occurs s name) (Matches s.fold_case s.listed name) h (matches-Decides s.fold_case s.listed name) (to_matches s name) (to_occurs s name)
