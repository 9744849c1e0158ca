-- The words of a substring search: which letters are one, where a pattern occurs, and the moves of a walk.
use Rattle.std.specs.Prelude.{if◌then◌else◌, ◌≡◌, ℕ, ◌+◌, ◌-◌, ◌≤◌, Bool, ◌&&◌, not, List, [], ◌∷◌, ◌++◌, map, length, take, drop, bytes_eq, nat_le}
use Rattle.std.specs.List.{Contains, list_any, count_by, position_or_len, range_with_len}

-- the most bytes that the patterns may have together
abbrev pub pattern_limit : ℕ
pattern_limit = 1048576

-- what contracts see of a set
pub record Patterns : Type 0 where
  pub listed : List (List ℕ)
  pub fold_case : Bool
  pub table : Bool

-- if case is folded, an ASCII capital letter is lowered; no other byte changes
abbrev pub lowered_byte : Bool → ℕ → ℕ
lowered_byte fold b = if fold && (nat_le 65 b && nat_le b 90) then b + 32 else b

abbrev pub lowered : Bool → List ℕ → List ℕ
lowered fold bs = map (lowered_byte fold) bs

-- some listed pattern occurs in the text
abbrev pub Occurs : Patterns → List ℕ → Type 0
Occurs s text = (p : List ℕ) × (a : List ℕ) × (b : List ℕ) × (Contains s.listed p × (lowered s.fold_case text ≡ a ++ lowered s.fold_case p ++ b))

-- some pattern that occurs in the text has at most n bytes
abbrev pub OccursWithin : Patterns → List ℕ → ℕ → Type 0
OccursWithin s text n = (p : List ℕ) × (a : List ℕ) × (b : List ℕ) × (Contains s.listed p × (lowered s.fold_case text ≡ a ++ lowered s.fold_case p ++ b) × (length p ≤ n))

-- the patterns as they are compared
abbrev pub compared : Patterns → List (List ℕ)
compared s = map (lowered s.fold_case) s.listed

-- w is a prefix of some pattern
unfoldable pub is_front : List (List ℕ) → List ℕ → Bool
is_front ps w = list_any (λ p. bytes_eq (take (length w) p) w) ps

-- w is one of the patterns
abbrev pub is_pattern : List (List ℕ) → List ℕ → Bool
is_pattern ps w = list_any (λ p. bytes_eq p w) ps

-- some pattern is an end of w
unfoldable pub some_ends : List (List ℕ) → List ℕ → Bool
some_ends ps w = list_any (λ p. bytes_eq (drop (length w - length p) w) p) ps

-- the longest end of w that is a prefix of some pattern
unfoldable pub longest_front : List (List ℕ) → List ℕ → List ℕ
longest_front ps [] = []
longest_front ps (b ∷ w) = if is_front ps (b ∷ w) then b ∷ w else longest_front ps w

-- the first place of the text at which some pattern ends, or else the text's length
unfoldable pub walk_end : List (List ℕ) → List ℕ → ℕ
walk_end ps text = position_or_len (λ k. some_ends ps (take k text)) (range_with_len 0 (length text))

-- whether the byte at a place changes the longest prefix
unfoldable pub moves_at : List (List ℕ) → List ℕ → ℕ → Bool
moves_at ps text k = not (bytes_eq (longest_front ps (take (k + 1) text)) (longest_front ps (take k text)))

-- the bytes up to the walk's end that change the longest prefix
unfoldable pub moves : List (List ℕ) → List ℕ → ℕ
moves ps text = count_by (moves_at ps text) (range_with_len 0 (walk_end ps text))

-- the moves of a set's walk over a text
abbrev pub moves_of : Patterns → List ℕ → ℕ
moves_of s text = moves (compared s) (lowered s.fold_case text)
