-- The recorders of the stack, and what a tree line does to them.
use Rattle.std.specs.Prelude.{◌≡◌, ℕ, suc, ◌+◌, ◌<◌, ◌≤◌, max, List, [], ◌∷◌, ◌++◌, length, map, Result, Ok, Err, Bool, true, false}
use Rattle.metrics.specs.Meaning.{Meaning}
use Rattle.metrics_debugging.specs.DebuggingMeaning as book
use Rattle.metrics_trees.specs.Trees.{tree_meaning}
use Rattle.metrics_trees.specs.Recorders.{books_in}
use Rattle.tool_trees.specs.Trees.{Tree, Trees, none, more, meaning_of, levels_of, IsAllowed, Steps, IsStuck}
use Rattle.tool_trees.specs.declared.level.Level.{Level}
use Rattle.tool_trees.specs.declared.tree_line.TreeLine.{TreeLine}
use Rattle.tool_trees.specs.declared.tree_line.TreeLine.TheVariants as line
use Rattle.tool_trees.specs.Words.{spelling, Spells}
use Rattle.tool_trees.specs.declared.level.LineError.{LineError}
use Rattle.tool_trees.specs.declared.level.LineError.TheVariants.{Bad}

abbrev pub level_meaning : Level → Meaning
level_meaning l = tree_meaning book.meaning_of l.child

abbrev pub level_meanings : List Level → List Meaning
level_meanings ls = map level_meaning ls

-- the greatest number of levels
abbrev pub most_of : List Level → ℕ
most_of [] = 0
most_of (l ∷ ls) = max l.levels (most_of ls)

-- A route was added to the recorders so far, of which the first is the default: to a target that was named, or to the
-- first one that was not.
pub record Adds (target named next : ℕ) (old new : List Meaning) (before after : List Level) : Type 0 where
  pub low : target ≤ named
  pub next_is : next ≡ max named (suc target)
  pub number : length new ≡ suc next
  pub count : next + length after ≡ named + length before
  pub whole : new ++ level_meanings after ≡ old ++ level_meanings before

abbrev pub CantAdd : ℕ → ℕ → List Meaning → List Level → Type 0
CantAdd target named old before =
    target ≤ named → target < named + length before → books_in (old ++ level_meanings before) ≤ 65536 → ⊥

-- ---- lines

-- a recorder of the stack is what this tree means
pub record IsBuilt (l : Level) (t : Tree) : Type 0 where
  pub meaning : level_meaning l ≡ meaning_of t
  pub levels : l.levels ≡ levels_of t
  pub allowed : IsAllowed t

abbrev pub AreBuilt : List Level → Trees → Type 0
AreBuilt [] none = Unit {0}
AreBuilt (l ∷ ls) (more t ts) = IsBuilt l t × AreBuilt ls ts
AreBuilt ls ts = ⊥

-- The bytes are `end` over one recorder; or they spell a line that removed its trees and pushed its own. Or memory ran
-- out, or the bytes are neither `end` over one tree nor a line that is allowed there.
abbrev pub DoesLine : List ℕ → List Level → List Level → Result Bool LineError → Type 0
DoesLine bytes old new (Ok true) = (bytes ≡ spelling line.End) × (length old ≡ 1) × (new ≡ old)
DoesLine bytes old new (Ok false) = (ts : Trees) → AreBuilt old ts → (said : TreeLine) × (us : Trees) × Spells bytes said × Steps said ts us × AreBuilt new us
DoesLine bytes old new (Err e) = e ≡ Bad → (ts : Trees) → AreBuilt old ts →
    ((t : Tree) → bytes ≡ spelling line.End → ts ≡ more t none → ⊥) × IsStuck bytes ts
