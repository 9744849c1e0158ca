-- The number of a key, by std's fast hasher over its texts.
use Rattle.std.specs.Prelude.{◌≡◌, ℕ, true, false, List, fold, refl}
use Rattle.std.proofs.Common.{ap}
use Rattle.std.specs.Hash.FoldHasher as folding
use Rattle.std.specs.declared.hash.FoldHasher.{FoldHasher}
use Rattle.metrics_names.specs.Names.{KeyParts, key_eq}
use Rattle.metrics_names.specs.Equality.{key_eq-Decides}

-- what std's fast hasher makes of these writes
abbrev pub hash_number : List (List ℕ) → ℕ
hash_number writes = folding.finish (fold folding.write folding.initial writes)

-- the state of a hasher after a label's key and value
abbrev pub after_label : FoldHasher → List ℕ × List ℕ → FoldHasher
after_label state l = folding.write (folding.write state l.0) l.1

-- the number of a key: a write of its name, and two of each label
unfoldable pub key_number : KeyParts → ℕ
key_number k = folding.finish (fold after_label (folding.write folding.initial k.name) k.labels)

-- equal keys have equal numbers
pub key_number_same : (a b : KeyParts) → key_eq a b ≡ true → key_number a ≡ key_number b
key_number_same a b e = ap key_number ((key_eq-Decides a b).0 e)

-- keys of different numbers differ
pub numbers_apart : (a b : KeyParts) → ¬ (key_number a ≡ key_number b) → false ≡ key_eq a b
numbers_apart a b apart = elim (key_eq a b) as (λ t. key_eq a b ≡ t → false ≡ t) [
  | true ↦ λ e. absurd (apart (key_number_same a b e))
  | false ↦ λ e. refl
] refl
