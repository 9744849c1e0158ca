-- The meaning of a tree of names, and what is true of each of its nodes. Its leaves are meant as new books, numbered in order.
use Rattle.std.specs.Prelude.{◌≡◌, ℕ, ◌+◌, ◌<◌, ◌≤◌, List, [], ◌∷◌, length, Option, None, Some}
use Rattle.std.specs.Coded.{Coded-set, coded_list, coded_ℕ, le_prop, ×_prop, Π_prop, Unit-prop}
use Rattle.metrics_names.specs.declared.kind.MetricKind.{MetricKind}
use Rattle.metrics.specs.Book.{new_book}
use Rattle.metrics.specs.Meaning.{Meaning, nothing, one_book}
use Rattle.metrics.specs.Layers.{prefixed, filtered, joined_all, choosing}
use Rattle.metrics.specs.Kinds.{of_kind}
use Rattle.prefix_match.specs.TriePatterns.{stored}
use Rattle.metrics_rules.specs.Routing.{RouteTables, target_of, branch_of}
use Rattle.metrics_rules.specs.declared.node.Node.{Node, Leaf, Noop, Prefixed', Filtered', Group', Row_of-Node, end_of-Node, more_of-Node}

-- several branches as one: each name goes to each of them, or else to the one that the routes choose
abbrev pub group_meaning : Option RouteTables → List Meaning → Meaning
group_meaning None all = joined_all all
group_meaning (Some tables) all = choosing (λ kind name. branch_of (target_of tables kind name)) all

abbrev mutual
  pub node_meaning : Node → Meaning
  node_meaning Leaf = one_book new_book
  node_meaning Noop = nothing
  node_meaning (Prefixed' front p c) = prefixed front (node_meaning c)
  node_meaning (Filtered' automaton p c) = filtered automaton.fold_case automaton.listed (node_meaning c)
  node_meaning (Group' shape all starts leaves routes) = group_meaning routes (row_meanings all)

  pub row_meanings : {k : _} → Row_of-Node k → List Meaning
  row_meanings end_of-Node = []
  row_meanings (more_of-Node c rest) = node_meaning c ∷ row_meanings rest

-- the number of leaves of a branch, and of several
abbrev pub leaves_of : Meaning → ℕ
leaves_of a = length a.contents

abbrev pub leaves_in : List Meaning → ℕ
leaves_in all = leaves_of (joined_all all)

-- how many leaves there may be in all
abbrev pub most_leaves : ℕ
most_leaves = 65536

-- the number of leaves before each of several branches; there are some before the first
abbrev pub starts_from : ℕ → List Meaning → List ℕ
starts_from start [] = []
starts_from start (a ∷ all) = start ∷ starts_from (start + leaves_of a) all

abbrev pub AreStarts : List ℕ → List Meaning → Type 0
AreStarts starts all = starts ≡ starts_from 0 all

-- each stored route goes to one of so many branches
abbrev pub IsWithin : Option RouteTables → ℕ → Type 0
IsWithin None n = Unit {0}
IsWithin (Some tables) n = (kind : MetricKind) (p : List ℕ) → branch_of (stored (of_kind kind tables) p) < n

-- what each node keeps of its children is true
abbrev mutual
  pub IsSound : Node → Type 0
  IsSound Leaf = Unit {0}
  IsSound Noop = Unit {0}
  IsSound (Prefixed' front p c) = IsSound c
  IsSound (Filtered' automaton p c) = IsSound c
  IsSound (Group' shape all starts leaves routes) =
      AreStarts starts.items (row_meanings all) × (leaves ≡ leaves_in (row_meanings all)) × IsWithin routes (length (row_meanings all)) × IsRowSound all

  pub IsRowSound : {k : _} → Row_of-Node k → Type 0
  IsRowSound end_of-Node = Unit {0}
  IsRowSound (more_of-Node c rest) = IsSound c × IsRowSound rest

-- a tree: what its nodes keep is true, and it has few leaves
abbrev pub IsTree : Node → Type 0
IsTree n = IsSound n × (leaves_of (node_meaning n) ≤ most_leaves)

-- ---- there is one proof at most

IsWithin-prop : (routes : Option RouteTables) (n : ℕ) → IsProp (IsWithin routes n)
IsWithin-prop None n = Unit-prop
IsWithin-prop (Some tables) n = Π_prop (λ kind. Π_prop (λ p. le_prop))

mutual
  pub IsSound-prop : (n : Node) → IsProp (IsSound n)
  IsSound-prop Leaf = Unit-prop
  IsSound-prop Noop = Unit-prop
  IsSound-prop (Prefixed' front p c) = IsSound-prop c
  IsSound-prop (Filtered' automaton p c) = IsSound-prop c
  IsSound-prop (Group' shape all starts leaves routes) = λ x y i. (
    Coded-set (coded_list coded_ℕ) starts.items (starts_from 0 (row_meanings all)) x.0 y.0 i,
    Coded-set coded_ℕ leaves (leaves_in (row_meanings all)) x.1 y.1 i,
    IsWithin-prop routes (length (row_meanings all)) x.2 y.2 i,
    IsRowSound-prop all x.3 y.3 i,
  )

  IsRowSound-prop : {k : _} (all : Row_of-Node k) → IsProp (IsRowSound all)
  IsRowSound-prop end_of-Node = Unit-prop
  IsRowSound-prop (more_of-Node c rest) = ×_prop (IsSound-prop c) (IsRowSound-prop rest)

pub IsTree-prop : (n : Node) → IsProp (IsTree n)
IsTree-prop n = ×_prop (IsSound-prop n) le_prop
