-- The lines of a tree: what each says.
use Rattle.std.specs.Prelude.{if◌then◌else◌, ◌≡◌, ℕ, ◌<◌, ◌≤◌, ◌^◌, Bool, List, ◌∷◌, ◌++◌, codes, decimal, flat_map, IsUtf8, Option, MatchOption}
use Rattle.std.specs.List.{AllByRecursion}
use Rattle.tool_grammar.specs.Cuts.{Lacks}
use Rattle.tool_grammar.specs.Grammar.{IsName}
use Rattle.tool_grammar.specs.Kinds.{HasKind, kinds_word}
use Rattle.metrics_names.specs.Names.{name_word}
use Rattle.tool_trees.specs.declared.tree_line.RouteWord.{RouteWord}
use Rattle.tool_trees.specs.declared.tree_line.TreeLine.{TreeLine}
use Rattle.tool_trees.specs.declared.tree_line.TreeLine.TheVariants as line

-- ---- words

-- several words, each with a space before it
abbrev pub words : {A : Type 0} → (A → List ℕ) → List A → List ℕ
words word xs = flat_map (λ x. 32 ∷ word x) xs

-- whether case is folded, and whether a table is made
abbrev pub flags_word : Bool → Bool → List ℕ
flags_word fold table = (if fold then codes "ci " else codes "cs ") ++ (if table then codes "dfa" else codes "links")

-- kinds, target and pattern, with a slash between two. The pattern is as written: nothing or a dash for the empty one
abbrev pub route_word : RouteWord → List ℕ
route_word r = kinds_word r.kinds ++ 47 ∷ (decimal r.target ++ 47 ∷ r.pattern)

-- ---- lines

abbrev pub spelling : TreeLine → List ℕ
spelling line.Book = codes "book"
spelling line.Noop = codes "noop"
spelling (line.Prefix p) = codes "prefix " ++ name_word p
spelling (line.Filter fold table patterns) = codes "filter " ++ (flags_word fold table ++ words name_word patterns)
spelling (line.Fanout n) = codes "fanout " ++ decimal n
spelling (line.Router n routes) = codes "router " ++ (decimal n ++ words route_word routes)
spelling line.End = codes "end"

-- some kind, a number, and a pattern in one word
abbrev pub IsRoute : RouteWord → Type 0
IsRoute r = HasKind r.kinds × (r.target < 2 ^ 64) × IsUtf8 r.pattern × Lacks 32 r.pattern

-- the lines that can be written
abbrev pub CanBeSpelled : TreeLine → Type 0
CanBeSpelled (line.Prefix p) = IsName p
CanBeSpelled (line.Filter fold table patterns) = AllByRecursion IsName patterns
CanBeSpelled (line.Fanout n) = n ≤ 65536
CanBeSpelled (line.Router n routes) = (n < 2 ^ 64) × AllByRecursion IsRoute routes
CanBeSpelled l = Unit {0}

-- the bytes spell the line
abbrev pub Spells : List ℕ → TreeLine → Type 0
Spells bytes l = CanBeSpelled l × (bytes ≡ spelling l)

-- the bytes spell no line
abbrev pub IsNoLine : List ℕ → Type 0
IsNoLine bytes = (l : TreeLine) → Spells bytes l → ⊥

-- what the bytes say, if they are a line
abbrev pub Says : List ℕ → Option TreeLine → Type 0
Says bytes found = MatchOption found (IsNoLine bytes) (Spells bytes)
