-- The table: a row for each state, and in it a column for each class of bytes.
use Rattle.std.specs.Prelude.{if◌then◌else◌, ◌≡◌, ℕ, ◌+◌, ◌*◌, ◌<◌, ◌≤◌, Bool, true, false, ◌⊎◌, List, [], ◌∷◌, ◌++◌, length, get_or, take}
use Rattle.prefix_match.specs.declared.substring.trie.Node.{Node}
use Rattle.prefix_match.specs.Substring.{lowered, lowered_byte, some_ends, longest_front, walk_end, moves}
use Rattle.prefix_match.specs.SubstringStates.{node_at, text_of, IsLinked}

-- the entry that leads to a match
abbrev pub matched : ℕ
matched = 4294967295

-- how a table names a state
abbrev pub entry_of : List Node → ℕ → ℕ → ℕ
entry_of nodes width x = if (node_at nodes x).matching then matched else x * width

-- the column of the byte that leads to a state
abbrev pub column_of : List ℕ → List Node → ℕ → ℕ
column_of columns nodes c = get_or columns (node_at nodes c).byte 0

-- each byte that leads to some state is marked
abbrev pub MarksBytes : List Node → List Bool → Type 0
MarksBytes nodes used = (c : ℕ) → 0 < c → c < length nodes → get_or used (node_at nodes c).byte false ≡ true

-- each marked byte has a column of its own
pub record IsNumbering (used : List Bool) (columns : List ℕ) (width : ℕ) : Type 0 where
  pub below : (y : ℕ) → get_or columns y 0 < width
  pub own : (y z : ℕ) → get_or used z false ≡ true → get_or columns y 0 ≡ get_or columns z 0 → y ≡ z

-- each byte that leads to some state has a column of its own
pub record HasColumns (nodes : List Node) (columns : List ℕ) (width : ℕ) : Type 0 where
  pub below : (y : ℕ) → get_or columns y 0 < width
  pub own : (y c : ℕ) → 0 < c → c < length nodes → get_or columns y 0 ≡ column_of columns nodes c → y ≡ (node_at nodes c).byte

-- one row is written, if the columns are those of the state's children
pub record WritesChildren (nodes : List Node) (columns : List ℕ) (width s row : ℕ) (old new : List ℕ) : Type 0 where
  pub len : length new ≡ length old
  pub child : (c : ℕ) → 0 < c → c < length nodes → (node_at nodes c).parent ≡ s → get_or new (row + column_of columns nodes c) 0 ≡ entry_of nodes width c
  pub rest : (j : ℕ) → ((c : ℕ) → 0 < c → c < length nodes → (node_at nodes c).parent ≡ s → j ≡ row + column_of columns nodes c → ⊥) → get_or new j 0 ≡ get_or old j 0

-- one row is copied to another
pub record CopiesRow (width from to : ℕ) (old new : List ℕ) : Type 0 where
  pub len : length new ≡ length old
  pub copied : (k : ℕ) → k < width → get_or new (to + k) 0 ≡ get_or old (from + k) 0
  pub rest : (j : ℕ) → (j < to) ⊎ (to + width ≤ j) → get_or new j 0 ≡ get_or old j 0

-- a state's row: its children, and else what its fail link's row has; the root's row stays there
pub record FillsRow (nodes : List Node) (columns : List ℕ) (width s : ℕ) (old new : List ℕ) : Type 0 where
  pub len : length new ≡ length old
  pub child : (c : ℕ) → 0 < c → c < length nodes → (node_at nodes c).parent ≡ s → get_or new (s * width + column_of columns nodes c) 0 ≡ entry_of nodes width c
  pub root : s ≡ 0 → (k : ℕ) → k < width → ((c : ℕ) → 0 < c → c < length nodes → (node_at nodes c).parent ≡ s → k ≡ column_of columns nodes c → ⊥) → get_or new (s * width + k) 0 ≡ get_or old (s * width + k) 0
  pub rest : 0 < s → (k : ℕ) → k < width → ((c : ℕ) → 0 < c → c < length nodes → (node_at nodes c).parent ≡ s → k ≡ column_of columns nodes c → ⊥) → get_or new (s * width + k) 0 ≡ get_or old ((node_at nodes s).fail * width + k) 0
  pub others : (x k : ℕ) → (x ≡ s → ⊥) → k < width → get_or new (x * width + k) 0 ≡ get_or old (x * width + k) 0

-- a state's row leads to where its links would
abbrev pub IsRow : List (List ℕ) → List Node → List ℕ → ℕ → List ℕ → ℕ → Type 0
IsRow ps nodes columns width next s =
    (y x : ℕ) → x < length nodes → text_of nodes x ≡ longest_front ps (text_of nodes s ++ y ∷ []) → get_or next (s * width + get_or columns y 0) 0 ≡ entry_of nodes width x

-- an entry of the table for what was read: a match, or the row of a state that is none
pub record LeadsOn (ps : List (List ℕ)) (text : ℕ → List ℕ) (count width entry : ℕ) (front : List ℕ) (x : ℕ) : Type 0 where
  pub within : x < count
  pub row : entry ≡ x * width
  pub below : entry < matched
  pub text_is : text x ≡ front
  pub none : some_ends ps front ≡ false

abbrev pub IsEntry : List (List ℕ) → (ℕ → List ℕ) → ℕ → ℕ → ℕ → List ℕ → Type 0
IsEntry ps text count width entry front =
    ((entry ≡ matched) × (some_ends ps front ≡ true)) ⊎ ((x : ℕ) × LeadsOn ps text count width entry front x)

-- a full table over states that have these texts
pub record IsTable (ps : List (List ℕ)) (fold : Bool) (classes next : List ℕ) (empty : Bool) : Type 0 where
  pub text : ℕ → List ℕ
  pub count : ℕ
  pub width : ℕ
  pub some : 0 < count
  pub narrow : width ≤ 257
  pub len : length next ≡ count * width
  pub class : (b : ℕ) → b < 256 → get_or classes b 0 < width
  pub root : text 0 ≡ []
  pub distinct : (x y : ℕ) → x < count → y < count → text x ≡ text y → x ≡ y
  pub at_start : empty ≡ some_ends ps []
  pub entries : (s b : ℕ) → s < count → b < 256 → IsEntry ps text count width (get_or next (s * width + get_or classes b 0) 0) (longest_front ps (text s ++ lowered_byte fold b ∷ []))

-- the result of a walk over the table
pub record IsTableWalk (ps : List (List ℕ)) (t : List ℕ) (yes : Bool) (counted : ℕ) : Type 0 where
  pub answer : some_ends ps (take (walk_end ps t) t) ≡ yes
  pub count : counted ≡ moves ps t

abbrev pub IsSomeTable : List ℕ → List ℕ → Bool → Type 0
IsSomeTable classes next empty = (ps : List (List ℕ)) × (fold : Bool) × IsTable ps fold classes next empty

abbrev pub WalksTable : List ℕ → List ℕ → Bool → List ℕ → Bool → ℕ → Type 0
WalksTable classes next empty text answer counted =
    (ps : List (List ℕ)) (fold : Bool) → IsTable ps fold classes next empty → IsTableWalk ps (lowered fold text) answer counted

-- the table of linked states
abbrev pub IsTableOf : List Node → Bool → List ℕ → List ℕ → Bool → Type 0
IsTableOf nodes fold classes next empty = (ps : List (List ℕ)) → IsLinked ps nodes → IsTable ps fold classes next empty
