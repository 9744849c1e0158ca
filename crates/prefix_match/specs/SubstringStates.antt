-- The states of the automaton, each named by the bytes that lead to it from the root.
use Rattle.std.specs.Prelude.{◌≡◌, ℕ, ◌+◌, zero, suc, ◌<◌, ◌≤◌, Bool, true, false, List, [], ◌∷◌, ◌++◌, length, get_or, slice_set, drop, take, ◌⊎◌, ◌*◌}
use Rattle.std.specs.List.{All, Contains}
use Rattle.std.specs.List.Sorted.{IsNonDecreasingBy}
use Rattle.prefix_match.specs.declared.substring.trie.Node.{Node}
use Rattle.prefix_match.specs.declared.substring.trie.Place.{Place}
use Rattle.prefix_match.specs.Substring.{is_front, some_ends, is_pattern, longest_front, walk_end}

abbrev pub no_node : Node
no_node = record { byte = 0; matching = false; parent = 0; first_child = 0; next_sibling = 0; fail = 0 }

abbrev pub node_at : List Node → ℕ → Node
node_at nodes s = get_or nodes s no_node

-- the bytes that lead to a state, in at most n steps
unfoldable pub bytes_within : (ℕ → ℕ) → (ℕ → ℕ) → ℕ → ℕ → List ℕ
bytes_within parent byte zero s = []
bytes_within parent byte (suc n) zero = []
bytes_within parent byte (suc n) (suc s) = bytes_within parent byte n (parent (suc s)) ++ byte (suc s) ∷ []

-- the bytes that lead to a state from the root
unfoldable pub text_of : List Node → ℕ → List ℕ
text_of nodes s = bytes_within (λ x. (node_at nodes x).parent) (λ x. (node_at nodes x).byte) s s

-- the parents and the lists of children are those of a tree, and no two children of a state have one byte
pub record IsTree (nodes : List Node) : Type 0 where
  pub root : 0 < length nodes
  pub root_parent : (node_at nodes 0).parent ≡ 0
  pub parents : (c : ℕ) → 0 < c → c < length nodes → (node_at nodes c).parent < c
  pub distinct : (c d : ℕ) → 0 < c → c < d → d < length nodes → (node_at nodes c).parent ≡ (node_at nodes d).parent → (node_at nodes c).byte ≡ (node_at nodes d).byte → ⊥
  pub first_in : (s : ℕ) → s < length nodes → (node_at nodes s).first_child < length nodes
  pub first_parent : (s : ℕ) → s < length nodes → 0 < (node_at nodes s).first_child → (node_at nodes (node_at nodes s).first_child).parent ≡ s
  pub first_last : (s c : ℕ) → s < length nodes → 0 < c → c < length nodes → (node_at nodes c).parent ≡ s → c ≤ (node_at nodes s).first_child
  pub next_less : (c : ℕ) → 0 < c → c < length nodes → (node_at nodes c).next_sibling < c
  pub next_parent : (c : ℕ) → 0 < c → c < length nodes → 0 < (node_at nodes c).next_sibling → (node_at nodes (node_at nodes c).next_sibling).parent ≡ (node_at nodes c).parent
  pub next_last : (c d : ℕ) → 0 < c → c < length nodes → 0 < d → d < c → (node_at nodes d).parent ≡ (node_at nodes c).parent → d ≤ (node_at nodes c).next_sibling

-- c is the child of s by a byte
pub record IsChild (nodes : List Node) (s byte c : ℕ) : Type 0 where
  pub above : 0 < c
  pub within : c < length nodes
  pub parent : (node_at nodes c).parent ≡ s
  pub byte_is : (node_at nodes c).byte ≡ byte

-- s has no child by a byte
abbrev pub HasNoChild : List Node → ℕ → ℕ → Type 0
HasNoChild nodes s byte = (c : ℕ) → 0 < c → c < length nodes → (node_at nodes c).parent ≡ s → (node_at nodes c).byte ≡ byte → ⊥

-- the states with a new child of s
unfoldable pub with_child : List Node → ℕ → ℕ → List Node
with_child nodes s byte =
    let added : Node = record { byte = byte; matching = false; parent = s; first_child = 0; next_sibling = (node_at nodes s).first_child; fail = 0 } in
    slice_set (nodes ++ added ∷ []) s (record (get_or (nodes ++ added ∷ []) s no_node) { first_child = length nodes })

-- the states' texts are the empty list and the prefixes of the patterns
pub record HasFronts (ps : List (List ℕ)) (nodes : List Node) : Type 0 where
  pub fronts : (w : List ℕ) → is_front ps w ≡ true → (x : ℕ) × ((x < length nodes) × (text_of nodes x ≡ w))
  pub only : (x : ℕ) → 0 < x → x < length nodes → is_front ps (text_of nodes x) ≡ true

pub record IsTrie (ps : List (List ℕ)) (nodes : List Node) : Type 0 where
  pub tree : IsTree nodes
  pub has : HasFronts ps nodes
  pub patterns : (x : ℕ) → x < length nodes → (node_at nodes x).matching ≡ is_pattern ps (text_of nodes x)

-- the root's child by each byte, or 0
pub record IsRootRow (nodes : List Node) (roots : List ℕ) : Type 0 where
  pub len : length roots ≡ 256
  pub found : (y : ℕ) → y < 256 → 0 < get_or roots y 0 → IsChild nodes 0 y (get_or roots y 0)
  pub none : (y : ℕ) → y < 256 → get_or roots y 0 ≡ 0 → HasNoChild nodes 0 y

-- all states, those with fewer bytes first
pub record IsByDepth (nodes : List Node) (order : List Place) : Type 0 where
  pub places : All (λ p. (p.state < length nodes) × (p.depth ≡ length (text_of nodes p.state))) order
  pub all : (x : ℕ) → x < length nodes → Contains order (record { depth = length (text_of nodes x); state = x })
  pub rises : IsNonDecreasingBy (λ p. p.depth) order

-- the same tree, whatever its matches and fail links
pub record KeepsShape (old new : List Node) : Type 0 where
  pub len : length new ≡ length old
  pub parent : (x : ℕ) → (node_at new x).parent ≡ (node_at old x).parent
  pub byte_is : (x : ℕ) → (node_at new x).byte ≡ (node_at old x).byte
  pub first : (x : ℕ) → (node_at new x).first_child ≡ (node_at old x).first_child
  pub next : (x : ℕ) → (node_at new x).next_sibling ≡ (node_at old x).next_sibling

-- a state's fail link leads to a shorter one
abbrev pub Falls : List Node → ℕ → Type 0
Falls nodes x = 0 < x → ((node_at nodes x).fail < length nodes) × (length (text_of nodes (node_at nodes x).fail) < length (text_of nodes x))

-- so do those of all states of less than d bytes
abbrev pub FallsBelow : List Node → ℕ → Type 0
FallsBelow nodes d = (x : ℕ) → x < length nodes → length (text_of nodes x) < d → Falls nodes x

-- a state's fail link leads to the longest prefix that ends its text without the first byte
pub record IsLink (ps : List (List ℕ)) (nodes : List Node) (x : ℕ) : Type 0 where
  pub within : (node_at nodes x).fail < length nodes
  pub fail : 0 < x → text_of nodes (node_at nodes x).fail ≡ longest_front ps (drop 1 (text_of nodes x))
  pub matching : (node_at nodes x).matching ≡ some_ends ps (text_of nodes x)

-- all states of less than d bytes are linked
abbrev pub IsLinkedBelow : List (List ℕ) → List Node → ℕ → Type 0
IsLinkedBelow ps nodes d = (x : ℕ) → x < length nodes → length (text_of nodes x) < d → IsLink ps nodes x

-- a state's match is decided by the patterns themselves, or by those that end it
abbrev pub IsMarked : List (List ℕ) → List Node → ℕ → Type 0
IsMarked ps nodes x = ((node_at nodes x).matching ≡ is_pattern ps (text_of nodes x)) ⊎ ((node_at nodes x).matching ≡ some_ends ps (text_of nodes x))

pub record IsLinked (ps : List (List ℕ)) (nodes : List Node) : Type 0 where
  pub tree : IsTree nodes
  pub has : HasFronts ps nodes
  pub links : (x : ℕ) → x < length nodes → IsLink ps nodes x

-- a byte leads from a state to the longest prefix at the end of what was read, if the states that are no longer are linked
abbrev pub StepsTo : List Node → ℕ → ℕ → ℕ → Type 0
StepsTo nodes s byte next =
    (ps : List (List ℕ)) → HasFronts ps nodes → IsLinkedBelow ps nodes (length (text_of nodes s) + 1) → text_of nodes next ≡ longest_front ps (text_of nodes s ++ byte ∷ [])

-- the target of a state's fail link, if the shorter states are linked
abbrev pub FailsTo : List Node → ℕ → ℕ → Type 0
FailsTo nodes s f =
    (ps : List (List ℕ)) → HasFronts ps nodes → IsLinkedBelow ps nodes (length (text_of nodes s)) → 0 < s → text_of nodes f ≡ longest_front ps (drop 1 (text_of nodes s))

-- a state is linked, if the shorter states were
abbrev pub LinksState : List Node → List Node → ℕ → Type 0
LinksState old new s =
    (ps : List (List ℕ)) → HasFronts ps old → IsLinkedBelow ps old (length (text_of old s)) → IsMarked ps old s → IsLink ps new s

abbrev pub LinksAll : List Node → List Node → Type 0
LinksAll old new = (ps : List (List ℕ)) → IsTrie ps old → IsLinked ps new

-- the result of a walk along the links
pub record IsLinkWalk (ps : List (List ℕ)) (t : List ℕ) (yes : Bool) (moves : ℕ) : Type 0 where
  pub answer : some_ends ps (take (walk_end ps t) t) ≡ yes
  pub most : moves ≤ 2 * length t
  pub least : length (longest_front ps (take (walk_end ps t) t)) ≤ moves

abbrev pub WalksLinks : List Node → List ℕ → Bool → ℕ → Type 0
WalksLinks nodes t answer moves = (ps : List (List ℕ)) → IsLinked ps nodes → IsLinkWalk ps t answer moves
