-- The trees that tree lines spell: their lines, what is required of them, and what they mean.
use Rattle.std.specs.Prelude.{if◌then◌else◌, ◌≡◌, ℕ, suc, ◌<◌, ◌≤◌, ◌⊎◌, max, List, [], ◌∷◌, ◌++◌, codes, length, map}
use Rattle.std.specs.List.{sum_by}
use Rattle.std.specs.Str.{bytes_eq}
use Rattle.metrics.specs.Book.{new_book}
use Rattle.metrics.specs.Meaning.{Meaning, nothing, one_book}
use Rattle.metrics.specs.Layers.{Route, prefixed, filtered, joined_all, routed}
use Rattle.metrics_trees.specs.Recorders.{books_in}
use Rattle.tool_trees.specs.declared.tree_line.RouteWord.{RouteWord}
use Rattle.tool_trees.specs.declared.tree_line.TreeLine.{TreeLine}
use Rattle.tool_trees.specs.declared.tree_line.TreeLine.TheVariants as line
use Rattle.tool_trees.specs.Words.{spelling, CanBeSpelled, Spells}

-- ---- trees

mutual
  -- a recorder as tree lines spell it: the line that makes it, and the trees that this line uses, in order
  pub data Tree : Type 0 where
    Node : TreeLine → Trees → Tree

  pub data Trees : Type 0 where
    none : Trees
    more : Tree → Trees → Trees

-- how many they are
abbrev pub number_of : Trees → ℕ
number_of none = 0
number_of (more t ts) = suc (number_of ts)

-- the ones, and then the others
abbrev pub append : Trees → Trees → Trees
append none us = us
append (more t ts) us = more t (append ts us)

abbrev pub push : Trees → Tree → Trees
push ts t = append ts (more t none)

-- the lines of a tree: those of the trees that it uses, in order, and then its own
abbrev mutual
  pub tree_lines : Tree → List (List ℕ)
  tree_lines (Node l ts) = trees_lines ts ++ spelling l ∷ []

  pub trees_lines : Trees → List (List ℕ)
  trees_lines none = []
  trees_lines (more t ts) = tree_lines t ++ trees_lines ts

-- ---- meanings

-- nothing and a dash are the empty pattern
abbrev pub pattern_of : List ℕ → List ℕ
pattern_of word = if bytes_eq word (codes "-") then [] else word

abbrev pub route_of : RouteWord → Route
route_of r = record { mask = r.kinds; pattern = pattern_of r.pattern; target = r.target }

-- what a line makes of recorders
abbrev pub line_meaning : TreeLine → List Meaning → Meaning
line_meaning line.Book ms = one_book new_book
line_meaning (line.Prefix p) (m ∷ ms) = prefixed p m
line_meaning (line.Filter fold table patterns) (m ∷ ms) = filtered fold patterns m
line_meaning (line.Fanout n) ms = joined_all ms
line_meaning (line.Router n routes) ms = routed (map route_of routes) ms
line_meaning l ms = nothing

-- the recorder that a tree is, its books new
abbrev mutual
  pub meaning_of : Tree → Meaning
  meaning_of (Node l ts) = line_meaning l (meanings_of ts)

  pub meanings_of : Trees → List Meaning
  meanings_of none = []
  meanings_of (more t ts) = meaning_of t ∷ meanings_of ts

-- ---- what is required

abbrev mutual
  pub levels_of : Tree → ℕ
  levels_of (Node l ts) = suc (most_levels ts)

  pub most_levels : Trees → ℕ
  most_levels none = 0
  most_levels (more t ts) = max (levels_of t) (most_levels ts)

-- how many recorders a line uses
abbrev pub arity : TreeLine → ℕ
arity (line.Prefix p) = 1
arity (line.Filter fold table patterns) = 1
arity (line.Fanout n) = n
arity (line.Router n routes) = suc n
arity l = 0

-- After so many of n targets were named, the routes name each other one too: each first by the lowest number not yet named.
abbrev pub NameTargets : ℕ → ℕ → List RouteWord → Type 0
NameTargets n named [] = named ≡ n
NameTargets n named (r ∷ routes) = (r.target ≤ named) × NameTargets n (max named (suc r.target)) routes

-- some route has this target
abbrev pub IsNamed : ℕ → List RouteWord → Type 0
IsNamed k [] = ⊥
IsNamed k (r ∷ routes) = (r.target ≡ k) ⊎ IsNamed k routes

-- The routes name n targets in order: each number below n and no other, and before a number each lower one.
pub record NameInOrder (n : ℕ) (routes : List RouteWord) : Type 0 where
  pub all : (k : ℕ) → k < n → IsNamed k routes
  pub only : (k : ℕ) → IsNamed k routes → k < n
  pub in_order : (before after : List RouteWord) (r : RouteWord) (k : ℕ) → routes ≡ before ++ r ∷ after → k < r.target → IsNamed k before

-- what a line requires of the recorders that it uses, beside their number and levels
abbrev pub Fits : TreeLine → List Meaning → Type 0
Fits (line.Filter fold table patterns) ms = sum_by length patterns ≤ 1048576
Fits (line.Fanout n) ms = books_in ms ≤ 65536
Fits (line.Router n routes) ms = NameTargets n 0 routes × (books_in ms ≤ 65536)
Fits line.End ms = ⊥
Fits l ms = Unit {0}

-- a line makes a tree of these
pub record Makes (l : TreeLine) (ts : Trees) : Type 0 where
  pub spelled : CanBeSpelled l
  pub number : number_of ts ≡ arity l
  pub fits : Fits l (meanings_of ts)
  pub low : most_levels ts < 1000

-- the trees that tree lines make
abbrev mutual
  pub IsAllowed : Tree → Type 0
  IsAllowed (Node l ts) = Makes l ts × AreAllowed ts

  pub AreAllowed : Trees → Type 0
  AreAllowed none = Unit {0}
  AreAllowed (more t ts) = IsAllowed t × AreAllowed ts

-- ---- whole texts

-- the line removes trees from the end, and appends the tree that it makes of them
pub record Steps (l : TreeLine) (old new : Trees) : Type 0 where
  pub front : Trees
  pub used : Trees
  pub before : old ≡ append front used
  pub after : new ≡ push front (Node l used)
  pub makes : Makes l used

-- the bytes spell no line that these trees allow
abbrev pub IsStuck : List ℕ → Trees → Type 0
IsStuck bytes ts = (l : TreeLine) (us : Trees) → Spells bytes l → Steps l ts us → ⊥

-- the lines of the tree and `end`, and then these
abbrev pub BeginsWithTree : List (List ℕ) → Tree → List (List ℕ) → Type 0
BeginsWithTree ls t rest = IsAllowed t × (ls ≡ tree_lines t ++ spelling line.End ∷ rest)

-- these lines don't begin with a tree
abbrev pub NoTree : List (List ℕ) → Type 0
NoTree ls = (t : Tree) (rest : List (List ℕ)) → BeginsWithTree ls t rest → ⊥

-- the lines of trees, one tree after the other, as the lines of one tree may begin
abbrev pub AreOfTrees : List (List ℕ) → Type 0
AreOfTrees ls = (ts : Trees) × AreAllowed ts × (ls ≡ trees_lines ts)

-- The first bad line, after others: those are the lines of trees, with it they aren't, and no lines that begin so begin
-- with a tree.
pub record IsFirstBad (ls : List (List ℕ)) (bad : List ℕ) : Type 0 where
  pub before : AreOfTrees ls
  pub no_more : AreOfTrees (ls ++ bad ∷ []) → ⊥
  pub no_tree : (following : List (List ℕ)) → NoTree ((ls ++ bad ∷ []) ++ following)
