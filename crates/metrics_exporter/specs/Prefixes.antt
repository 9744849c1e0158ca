-- What is set for prefixes of names, and which of it a name has.
use Rattle.std.specs.Prelude.{◌≡◌, ℕ, zero, suc, ◌<◌, ◌≤◌, List, [], take, length, Option, Some, IsSome}
use Rattle.std.specs.Option.{option_or, unwrap_or}
use Rattle.metrics_storage.specs.Histogram.{Distribution, no_samples, bounds_of}
use Rattle.prefix_match.specs.TriePatterns.{IsFront, stored}

-- what is set for the longest prefix of a name that has at most n bytes
abbrev pub longest_within : {A : Type 0} → (List ℕ → Option A) → List ℕ → ℕ → Option A
longest_within set name zero = set []
longest_within set name (suc n) = option_or (set (take (suc n) name)) (longest_within set name n)

-- what is set for the longest prefix of a name for which something is, or else the default
abbrev pub at_longest : {A : Type 0} → A → (List ℕ → Option A) → List ℕ → A
at_longest default set name = unwrap_or (longest_within set name (length name)) default

-- a value is set for this prefix of the name, and none for a longer one
pub record IsSetAtLongest {A : Type 0} (set : List ℕ → Option A) (name prefix : List ℕ) (value : A) : Type 0 where
  pub has : set prefix ≡ Some value
  pub front : IsFront prefix name
  pub longest : (q : List ℕ) → IsSome (set q) → IsFront q name → length q ≤ length prefix

-- no value is set for a prefix of the name
abbrev pub IsSetAtNone : {A : Type 0} → (List ℕ → Option A) → List ℕ → Type 0
IsSetAtNone set name = (q : List ℕ) → IsSome (set q) → ¬ IsFront q name

-- a histogram has bounds and no samples
abbrev pub IsEmpty : Distribution → Type 0
IsEmpty d = d ≡ no_samples (bounds_of d)

-- what is stored are places below n
abbrev pub ArePlaces : List (List ℕ × ℕ) → ℕ → Type 0
ArePlaces pairs n = (prefix : List ℕ) (place : ℕ) → stored pairs prefix ≡ Some place → place < n

-- what is set for names, or for units, are histograms without samples
abbrev pub AreEmptyAt : {A : Type 0} → (A → Option Distribution) → Type 0
AreEmptyAt {A} set = (a : A) (d : Distribution) → set a ≡ Some d → IsEmpty d
