-- How the nodes of a radix tree are connected.
use Rattle.std.specs.Prelude.{◌≡◌, ◌≢◌, ℕ, ◌<◌, ◌≤◌, List, [], ◌∷◌, ◌++◌, Option, Some, None, IsSome, length, map, take, unwrap_or, slice_index, slice_index_or}
use Rattle.std.specs.List.{Contains}
use Rattle.std.specs.Map.{lookup}
use Rattle.std.specs.Ordering.{nat_cmp}
use Rattle.std.specs.BTreeMap.{is_at}
use Rattle.prefix_match.specs.TriePatterns.{Patterns}
use Rattle.prefix_match.specs.declared.trie.tree.Node.{Node}

-- the bytes on the way to each node, and each node's value
abbrev pub paths : List Node → List (List ℕ)
paths nodes = map (λ node. node.path.items) nodes

abbrev pub values : List Node → List (Option ℕ)
values nodes = map (λ node. node.value) nodes

abbrev pub path_at : List Node → ℕ → List ℕ
path_at nodes n = slice_index_or (paths nodes) n []

abbrev pub value_at : List Node → ℕ → Option ℕ
value_at nodes n = slice_index_or (values nodes) n None

-- the child for a byte, among a node's children, and at a node
abbrev pub child_in : List (ℕ × ℕ) → ℕ → Option ℕ
child_in children byte = lookup (is_at (nat_cmp byte)) children

abbrev pub child_at : List Node → ℕ → ℕ → Option ℕ
child_at nodes n byte = child_in (slice_index_or (map (λ node. node.children.entries) nodes) n []) byte

-- the child of a node for the byte by which the way goes on
abbrev pub next_child : List Node → ℕ → List ℕ → Option ℕ
next_child nodes n way = child_at nodes n (slice_index way (length (path_at nodes n)))

-- the way begins with the prefix
abbrev pub Begins : List ℕ → List ℕ → Type 0
Begins front way = take (length front) way ≡ front

-- the two begin with the same bytes up to this length, and there they end or differ
pub record IsCommonLen (a b : List ℕ) (len : ℕ) : Type 0 where
  pub in_a : len ≤ length a
  pub in_b : len ≤ length b
  pub same : take len a ≡ take len b
  pub differ : len < length a → len < length b → slice_index a len ≢ slice_index b len

-- the way goes on past the prefix, by this byte
pub record GoesOn (front way : List ℕ) (byte : ℕ) : Type 0 where
  pub begins : Begins front way
  pub longer : length front < length way
  pub next_byte : slice_index way (length front) ≡ byte

-- The nodes are those below count. Their paths differ. A node's child for a byte is a node whose path goes on past its own by
-- that byte. If a path goes on past a node's, the node's child for the next byte is there, and the path begins with the
-- child's. (The root means no child; its path is longer than none.)
pub record IsTree (count : ℕ) (path : ℕ → List ℕ) (child : ℕ → ℕ → Option ℕ) : Type 0 where
  pub root : path 0 ≡ []
  pub apart : (n m : ℕ) → n < count → m < count → path n ≡ path m → n ≡ m
  pub below : (n byte c : ℕ) → n < count → child n byte ≡ Some c → c < count
  pub onward : (n byte c : ℕ) → n < count → child n byte ≡ Some c → GoesOn (path n) (path c) byte
  pub reaches : (n m byte : ℕ) → n < count → m < count → GoesOn (path n) (path m) byte →
      (length (path n) < length (path (unwrap_or (child n byte) 0))) × Begins (path (unwrap_or (child n byte) 0)) (path m)

-- the nodes form a tree
abbrev pub AreTree : List Node → Type 0
AreTree nodes = IsTree (length nodes) (path_at nodes) (child_at nodes)

-- A new node with this path and these children can be the parent's child for the path's next byte: what
-- the parent leads to by that byte lies past it, and what lies past it is one of its children, or lies
-- past one.
pub record FitsBelow (nodes : List Node) (parent : ℕ) (path : List ℕ) (children : List (ℕ × ℕ)) : Type 0 where
  pub within : parent < length nodes
  pub longer : length (path_at nodes parent) < length path
  pub begins : Begins (path_at nodes parent) path
  pub below : (byte c : ℕ) → child_in children byte ≡ Some c → c < length nodes
  pub onward : (byte c : ℕ) → child_in children byte ≡ Some c → GoesOn path (path_at nodes c) byte
  pub apart : (m : ℕ) → m < length nodes → path ≢ path_at nodes m
  pub reaches : (m byte : ℕ) → m < length nodes → GoesOn path (path_at nodes m) byte →
      (length path < length (path_at nodes (unwrap_or (child_in children byte) 0)))
      × Begins (path_at nodes (unwrap_or (child_in children byte) 0)) (path_at nodes m)
  pub taken : (m : ℕ) → m < length nodes →
      GoesOn (path_at nodes parent) (path_at nodes m) (slice_index path (length (path_at nodes parent))) →
      Begins path (path_at nodes m)

-- the way to the node is the longest one that the text begins with
pub record IsDeepest (nodes : List Node) (text : List ℕ) (n : ℕ) : Type 0 where
  pub within : n < length nodes
  pub begins : Begins (path_at nodes n) text
  pub deepest : (m : ℕ) → m < length nodes → Begins (path_at nodes m) text →
      length (path_at nodes m) ≤ length (path_at nodes n)

-- no node lies between n and c on the way along the text
pub record IsNext (nodes : List Node) (text : List ℕ) (n c : ℕ) : Type 0 where
  pub within : c < length nodes
  pub begins : Begins (path_at nodes c) text
  pub further : length (path_at nodes n) < length (path_at nodes c)
  pub next : (m : ℕ) → m < length nodes → Begins (path_at nodes m) text →
      length (path_at nodes n) < length (path_at nodes m) →
      length (path_at nodes c) ≤ length (path_at nodes m)

-- of the nodes with a value on the way along the text, none within the limit is longer than n
pub record IsBest (nodes : List Node) (text : List ℕ) (limit value n : ℕ) : Type 0 where
  pub within : n < length nodes
  pub has_value : value_at nodes n ≡ Some value
  pub begins : Begins (path_at nodes n) text
  pub best : (m : ℕ) → m < length nodes → IsSome (value_at nodes m) → Begins (path_at nodes m) text →
      length (path_at nodes m) ≤ limit → length (path_at nodes m) ≤ length (path_at nodes n)

-- the value of the longest such node, if there is one
abbrev pub Best : List Node → List ℕ → ℕ → Option ℕ → Type 0
Best nodes text limit None = (m : ℕ) → m < length nodes → IsSome (value_at nodes m) →
    Begins (path_at nodes m) text → limit < length (path_at nodes m)
Best nodes text limit (Some value) = (n : ℕ) × IsBest nodes text limit value n

-- the nodes have the same paths and values
pub record SameNodes (old new : List Node) : Type 0 where
  pub same_paths : paths new ≡ paths old
  pub same_values : values new ≡ values old

-- one more node, with this path and no value
pub record AddsNode (old new : List Node) (path : List ℕ) (n : ℕ) : Type 0 where
  pub last : n ≡ length old
  pub more_paths : paths new ≡ paths old ++ path ∷ []
  pub more_values : values new ≡ values old ++ None ∷ []

-- the pairs of the paths and the values that are there
abbrev pub pairs_of : List (List ℕ) → List (Option ℕ) → List (List ℕ × ℕ)
pairs_of [] vs = []
pairs_of (p ∷ ps) [] = []
pairs_of (p ∷ ps) (None ∷ vs) = pairs_of ps vs
pairs_of (p ∷ ps) (Some v ∷ vs) = (p, v) ∷ pairs_of ps vs

-- the nodes have a node for each path that had one, and the same pairs
pub record Grows (old new : List Node) : Type 0 where
  pub same_pairs : pairs_of (paths new) (values new) ≡ pairs_of (paths old) (values old)
  pub keeps_room : (q : List ℕ) → Contains (paths old) q → Contains (paths new) q

-- what a tree's callers see: a pattern has room if it has a node
abbrev pub patterns_of : List Node → Patterns
patterns_of nodes = record { pairs = pairs_of (paths nodes) (values nodes); room = paths nodes }
