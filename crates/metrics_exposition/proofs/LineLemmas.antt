-- The lines of samples, one after another.
use Rattle.std.proofs.Common.{◌≡◌, ◌∙◌, ◌++◌, ◌∷◌, [], ℕ, List, ap, sym, append_assoc, append-nil}
use Rattle.std.proofs.lemmas.Grind.{flat_map-append}
use Rattle.metrics_exposition.specs.Samples.{Sample, sample_line, lines}

pub three-more : (start : List ℕ) (xs : List Sample) (a b c : Sample) (first second third fourth : List ℕ)
    → first ≡ start ++ lines xs → second ≡ first ++ sample_line a → third ≡ second ++ sample_line b → fourth ≡ third ++ sample_line c
    → fourth ≡ start ++ lines (xs ++ a ∷ b ∷ c ∷ [])
three-more start xs a b c first second third fourth e f g h =
    h ∙ ap (λ l. l ++ sample_line c) (g ∙ ap (λ l. l ++ sample_line b) (f ∙ ap (λ l. l ++ sample_line a) e))
    ∙ flat start (lines xs) (sample_line a) (sample_line b) (sample_line c)
    ∙ sym (ap (λ l. start ++ l) (flat_map-append sample_line xs (a ∷ b ∷ c ∷ [])))
  where
    flat : (s l p q r : List ℕ) → (((s ++ l) ++ p) ++ q) ++ r ≡ s ++ (l ++ (p ++ (q ++ (r ++ []))))
    flat s l p q r = simp (append_assoc, append-nil)

-- five parts, one written after another
pub five-parts : (start a b c d e first second third fourth fifth : List ℕ) → first ≡ start ++ a → second ≡ first ++ b → third ≡ second ++ c → fourth ≡ third ++ d → fifth ≡ fourth ++ e
    → fifth ≡ start ++ (a ++ (b ++ (c ++ (d ++ e))))
five-parts start a b c d e first second third fourth fifth p q r s t =
    t ∙ ap (λ l. l ++ e) (s ∙ ap (λ l. l ++ d) (r ∙ ap (λ l. l ++ c) (q ∙ ap (λ l. l ++ b) p))) ∙ flat start a b c d e
  where
    flat : (start a b c d e : List ℕ) → ((((start ++ a) ++ b) ++ c) ++ d) ++ e ≡ start ++ (a ++ (b ++ (c ++ (d ++ e))))
    flat start a b c d e = simp append_assoc
