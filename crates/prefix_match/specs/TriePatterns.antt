-- What a trie stores, as its callers see it.
use Rattle.std.specs.Prelude.{◌≡◌, ℕ, ◌≤◌, List, Option, Some, IsTrue, IsSome, length, nat_eq}
use Rattle.std.specs.List.{starts_with, Contains}
use Rattle.std.specs.Str.{bytes_eq}
use Rattle.std.specs.Map.{lookup}

-- the stored patterns, each with its value, and the patterns that an insert needs no memory for
pub record Patterns : Type 0 where
  pub pairs : List (List ℕ × ℕ)
  pub room : List (List ℕ)

-- the value under a pattern
abbrev pub stored : List (List ℕ × ℕ) → List ℕ → Option ℕ
stored pairs pattern = lookup (bytes_eq pattern) pairs

-- the text begins with the pattern
abbrev pub IsFront : List ℕ → List ℕ → Type 0
IsFront pattern text = IsTrue (starts_with nat_eq text pattern)

-- no stored pattern is a prefix of the text
abbrev pub HasNoFront : List (List ℕ × ℕ) → List ℕ → Type 0
HasNoFront pairs text = (q : List ℕ) → IsSome (stored pairs q) → ¬ IsFront q text

-- the pattern is a prefix of the text with this value, and no stored prefix is longer
pub record IsLongestFront (pairs : List (List ℕ × ℕ)) (text pattern : List ℕ) (value : ℕ) : Type 0 where
  pub has_value : stored pairs pattern ≡ Some value
  pub front : IsFront pattern text
  pub longest : (q : List ℕ) → IsSome (stored pairs q) → IsFront q text → length q ≤ length pattern

-- the value of the longest stored pattern that is a prefix of the text
abbrev pub IsLongest : List (List ℕ × ℕ) → List ℕ → ℕ → Type 0
IsLongest pairs text value = (pattern : List ℕ) × IsLongestFront pairs text pattern value

-- an insert of the pattern needs no memory
abbrev pub HasRoom : Patterns → List ℕ → Type 0
HasRoom patterns pattern = Contains patterns.room pattern
