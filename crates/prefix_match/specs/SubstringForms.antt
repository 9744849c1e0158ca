-- A set's fields, as contracts see them, and what is true of each form.
use Rattle.std.specs.Prelude.{ℕ, ◌≤◌, Bool, true, false, List, map, length}
use Rattle.prefix_match.specs.declared.substring.Form.{Form}
use Rattle.prefix_match.specs.declared.substring.Form.TheVariants.{Links, Table}
use Rattle.prefix_match.specs.declared.substring.links.Automaton.{Automaton}
use Rattle.prefix_match.specs.declared.substring.SubstringSet.TheInside.{Inside}
use Rattle.prefix_match.specs.Substring.{Patterns, compared}
use Rattle.prefix_match.specs.SubstringStates.{IsLinked, IsRootRow, IsByDepth}
use Rattle.prefix_match.specs.SubstringTable.{IsTable}

abbrev pub is_table : Form → Bool
is_table (Links l) = false
is_table (Table t) = true

abbrev pub patterns_of : Inside → Patterns
patterns_of s = record { listed = map (λ p. p.items) s.patterns.items; fold_case = s.fold_case; table = is_table s.form }

-- the linked states of the patterns
pub record IsAutomatonOf (ps : List (List ℕ)) (l : Automaton) : Type 0 where
  pub links : IsLinked ps l.nodes.items
  pub roots : IsRootRow l.nodes.items l.roots.items
  pub order : IsByDepth l.nodes.items l.order.items
  pub room : length l.nodes.items ≤ 1048577

-- the states are those of the patterns, in either form
abbrev pub IsFormOf : List (List ℕ) → Bool → Form → Type 0
IsFormOf ps fold (Links l) = IsLinked ps l.nodes.items × IsRootRow l.nodes.items l.roots.items
IsFormOf ps fold (Table t) = IsTable ps fold t.classes t.next.items t.matches_empty

abbrev pub IsSet : Inside → Type 0
IsSet s = IsFormOf (compared (patterns_of s)) s.fold_case s.form
