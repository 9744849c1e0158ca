-- What reading the lines of a tree did.
use Rattle.std.specs.Prelude.{◌≡◌, ◌≤◌, ℕ, suc, List, [], ◌∷◌, ◌++◌, length, ◌⊎◌, None, Some}
use Rattle.metrics.specs.Meaning.{Meaning}
use Rattle.tool_grammar.specs.declared.error.RunError.{RunError}
use Rattle.tool_grammar.specs.declared.error.RunError.TheVariants.{Memory, BadLine, Device}
use Rattle.tool_trees.specs.declared.tree_line.TreeLine.TheVariants as line
use Rattle.tool_trees.specs.Words.{spelling}
use Rattle.tool_trees.specs.Trees.{Tree, tree_lines, meaning_of, IsAllowed, NoTree, AreOfTrees, IsFirstBad}
use Rattle.tool_trees.specs.declared.level.LineError.{LineError}
use Rattle.tool_trees.specs.declared.level.LineError.TheVariants as levels
use Rattle.tool_stream.specs.Lines.{lines_of, unlines}

-- These lines were read: each with its line feed, so that what is read after them has its own lines; or they are all,
-- at the reader's end.
abbrev pub AreRead : Type 0 → List ℕ → List (List ℕ) → Type 0
AreRead at_end read ls =
    ((read ≡ unlines ls) × ((rest : List ℕ) → lines_of (read ++ rest) ≡ ls ++ lines_of rest)) ⊎ (at_end × (lines_of read ≡ ls))

-- What was read is the lines of a tree and `end`, the recorder is that tree, and the next line has this number.
abbrev pub BuildsTree : Type 0 → List ℕ → Meaning → ℕ → Type 0
BuildsTree at_end read m number = (t : Tree)
    × IsAllowed t × (m ≡ meaning_of t)
    × AreRead at_end read (tree_lines t ++ spelling line.End ∷ []) × (number ≡ suc (suc (length (tree_lines t))))

-- Lines of trees were read, one tree after the other, and after them at most one line, or a part of it.
abbrev pub StopsAfter : List ℕ → List (List ℕ) → Type 0
StopsAfter read ls = (part : List ℕ)
    × AreOfTrees ls × (read ≡ unlines ls ++ part) × (lines_of read ≡ ls ++ lines_of part) × (length (lines_of part) ≤ 1)

-- The first bad line, after the lines of trees; or the reader is at its end after such lines, and they have no `end`.
-- The error for out of memory has the number of the line after those of trees.
abbrev pub RefusesTree : Type 0 → List ℕ → RunError → Type 0
RefusesTree at_end read (BadLine k) =
    ((ls : List (List ℕ)) × (bad : List ℕ) × AreRead at_end read (ls ++ bad ∷ []) × IsFirstBad ls bad × (k ≡ suc (length ls)))
    ⊎ (at_end × AreOfTrees (lines_of read) × NoTree (lines_of read) × (k ≡ suc (length (lines_of read))))
RefusesTree at_end read (Memory None) = ⊥
RefusesTree at_end read (Memory (Some k)) = (ls : List (List ℕ)) × StopsAfter read ls × (k ≡ suc (length ls))
RefusesTree at_end read Device = (ls : List (List ℕ)) × StopsAfter read ls

-- the error at a tree line
abbrev pub error_at : ℕ → LineError → RunError
error_at number levels.Memory = Memory (Some number)
error_at number levels.Bad = BadLine number
