-- Labels, and the line of a bucket, after what such lines begin with.
use Rattle.std.proofs.Common.{◌≡◌, ◌∙◌, ◌++◌, ◌∷◌, [], ℕ, ℤ, List, refl, map, ap, sym, codes, decimal, append_assoc, append-nil}
use Rattle.std.specs.Prelude.{flat_map}
use Rattle.metrics_names.specs.Names.{LabelParts}
use Rattle.metrics_exposition.specs.Names.{escaped}
use Rattle.metrics_exposition.specs.Numbers.{number}
use Rattle.metrics_exposition.specs.Samples.{label_text, joined, labels_text, lines, bucket_sample}
use Rattle.metrics_exposition.specs.Heads.{open_text, more_text, HeadedLineIsThatOfItsSample, with_commas, bucket_head, bucket_line, BucketLineIsThatOfItsSample}

-- labels with a last one: a comma is before each, or after
commas-more : (ls : List LabelParts) (x : LabelParts) → flat_map (λ m. 44 ∷ label_text m) (ls ++ x ∷ []) ≡ 44 ∷ joined (ls ++ x ∷ [])
commas-more [] x = refl
commas-more (l ∷ ls) x = refl

joined-last : (ls : List LabelParts) (x : LabelParts) → joined (ls ++ x ∷ []) ≡ with_commas ls ++ label_text x
joined-last [] x = append-nil (label_text x)
joined-last (l ∷ ls) x =
    ap (λ t. label_text l ++ t) (commas-more ls x ∙ ap (λ t. 44 ∷ t) (joined-last ls x)) ∙ flat l.0 (escaped l.1) (with_commas ls) (label_text x)
  where
    flat : (n v b c : List ℕ) → (n ++ (codes "=\"" ++ (v ++ codes "\""))) ++ 44 ∷ (b ++ c) ≡ (((n ++ (codes "=\"" ++ v)) ++ codes "\",") ++ b) ++ c
    flat n v b c = simp append_assoc

in-braces : (ls : List LabelParts) (x : LabelParts) → labels_text (ls ++ x ∷ []) ≡ 123 ∷ (joined (ls ++ x ∷ []) ++ codes "}")
in-braces [] x = refl
in-braces (l ∷ ls) x = refl

-- the quote that ends each label is written before the next one
quotes-more : (ls : List LabelParts) → 34 ∷ flat_map (λ m. 44 ∷ label_text m) ls ≡ flat_map more_text ls ++ 34 ∷ []
quotes-more [] = refl
quotes-more (l ∷ ls) = flat l.0 (escaped l.1) (flat_map (λ m. 44 ∷ label_text m) ls) ∙ ap (λ t. (34 ∷ 44 ∷ open_text l) ++ t) (quotes-more ls) ∙ sym (append_assoc (more_text l) (flat_map more_text ls) (34 ∷ []))
  where
    flat : (n v t : List ℕ) → 34 ∷ 44 ∷ ((n ++ (codes "=\"" ++ (v ++ codes "\""))) ++ t) ≡ (34 ∷ 44 ∷ (n ++ (codes "=\"" ++ v))) ++ 34 ∷ t
    flat n v t = simp append_assoc

labels-open : (l : LabelParts) (ls : List LabelParts) → 123 ∷ (open_text l ++ (flat_map more_text ls ++ codes "\"}")) ≡ labels_text (l ∷ ls)
labels-open l ls = ap (λ t. 123 ∷ t) (split (open_text l) (flat_map more_text ls) ∙ ap (λ t. open_text l ++ (t ++ codes "}")) (sym (quotes-more ls)) ∙ flat l.0 (escaped l.1) (flat_map (λ m. 44 ∷ label_text m) ls))
  where
    split : (o m : List ℕ) → o ++ (m ++ codes "\"}") ≡ o ++ ((m ++ 34 ∷ []) ++ codes "}")
    split o m = simp append_assoc

    flat : (n v t : List ℕ) → (n ++ (codes "=\"" ++ v)) ++ ((34 ∷ t) ++ codes "}") ≡ ((n ++ (codes "=\"" ++ (v ++ codes "\""))) ++ t) ++ codes "}"
    flat n v t = simp append_assoc

-- so written, one part after another
pub labels-written : (start first second third fourth end after : List ℕ) (l : LabelParts) (ls : List LabelParts) → first ≡ start ++ codes "{" → second ≡ first ++ open_text l → third ≡ second ++ flat_map more_text ls → fourth ≡ third ++ end
    → end ≡ codes "\"}" ++ after → fourth ≡ start ++ (labels_text (l ∷ ls) ++ after)
labels-written start first second third fourth end after l ls e f g h i =
    h ∙ ap (λ t. third ++ t) i ∙ ap (λ t. t ++ (codes "\"}" ++ after)) (g ∙ ap (λ t. t ++ flat_map more_text ls) (f ∙ ap (λ t. t ++ open_text l) e)) ∙ flat start (open_text l) (flat_map more_text ls)
    ∙ ap (λ t. start ++ (t ++ after)) (labels-open l ls)
  where
    flat : (s o m : List ℕ) → (((s ++ codes "{") ++ o) ++ m) ++ (codes "\"}" ++ after) ≡ s ++ (123 ∷ (o ++ (m ++ codes "\"}")) ++ after)
    flat s o m = simp append_assoc

pub headed-line : HeadedLineIsThatOfItsSample
headed-line name l more value =
    flat name l.0 (escaped l.1) (flat_map more_text more) (codes "\"}") value
    ∙ ap (λ t. name ++ (t ++ 32 ∷ (value ++ 10 ∷ []))) (labels-open l more)
  where
    flat : (n k v m e t : List ℕ)
        → (n ++ (123 ∷ (k ++ codes "=\""))) ++ (v ++ (m ++ ((e ++ 32 ∷ []) ++ (t ++ 10 ∷ [])))) ≡ n ++ ((123 ∷ ((k ++ (codes "=\"" ++ v)) ++ (m ++ e))) ++ 32 ∷ (t ++ 10 ∷ []))
    flat n k v m e t = simp append_assoc

pub bucket-line : BucketLineIsThatOfItsSample
bucket-line name labels bound n =
    flat name (codes "_bucket") (123 ∷ []) (with_commas labels) (codes "le") (codes "=\"") (escaped bound) (codes "\"") (codes "}") (32 ∷ []) (decimal n) (10 ∷ [])
    ∙ ap (λ t. (name ++ codes "_bucket") ++ (t ++ 32 ∷ (decimal n ++ 10 ∷ []))) (ap (λ t. 123 ∷ (t ++ codes "}")) (sym (joined-last labels (codes "le", bound))) ∙ sym (in-braces labels (codes "le", bound)))
  where
    flat : (a b c d e f g h i j k l : List ℕ)
        → (a ++ ((b ++ c) ++ (d ++ (e ++ f)))) ++ (g ++ ((h ++ (i ++ j)) ++ (k ++ l))) ≡ (a ++ b) ++ ((c ++ ((d ++ (e ++ (f ++ (g ++ h)))) ++ i)) ++ (j ++ (k ++ l)))
    flat a b c d e f g h i j k l = simp append_assoc

pub bucket-lines : (name : List ℕ) (labels : List LabelParts) (places : ℕ) (bs : List (ℤ × ℕ))
    → flat_map (λ b. bucket_line (bucket_head name labels) (number places b.0) b.1) bs ≡ lines (map (λ b. bucket_sample name labels (number places b.0) b.1) bs)
bucket-lines name labels places [] = refl
bucket-lines name labels places (b ∷ bs) = λ j. bucket-line name labels (number places b.0) b.1 j ++ bucket-lines name labels places bs j
