-- The lines of a text that say that a series is left out.
use Rattle.std.specs.Prelude.{◌≡◌, ◌+◌, ◌==◌, ◌++◌, ◌∷◌, ℕ, Bool, true, List, nat_eq, codes, length, drop}
use Rattle.std.specs.List.{All, filter, slice_split, starts_with}

-- a line says so
abbrev pub says_left_out : List ℕ → Bool
says_left_out line = starts_with nat_eq line (codes "# left out: ")

-- how many lines of a text say so
abbrev pub left_out_number : List ℕ → ℕ
left_out_number text = length (filter says_left_out (slice_split (λ c. c == 10) text))

-- so many lines of a text say so, and its last line is ended: with more after it the lines of that are added
abbrev pub LeavesOut : List ℕ → ℕ → Type 0
LeavesOut text n = (more : List ℕ) → left_out_number (text ++ more) ≡ n + left_out_number more

-- at each of these places a text goes on as such a line
abbrev pub BeginLeftOut : List ℕ → List ℕ → Type 0
BeginLeftOut text places = All (λ p. says_left_out (drop p text) ≡ true) places

-- at a place of a text begins a line that says these words
abbrev pub SaysAt : List ℕ → ℕ → List ℕ → Type 0
SaysAt text place words = (after : List ℕ) × (drop place text ≡ codes "# left out: " ++ (words ++ 10 ∷ after))
