-- The recorders at the leaves of a tree.
use Rattle.std.specs.Prelude.{ℕ, List, [], ◌∷◌}
use Rattle.metrics.specs.declared.recorder.Recorder as recorder
use Rattle.metrics_rules.specs.Branches.{HasSpare}
use Rattle.metrics_trees.specs.declared.leaves.Leaves.{Leaves}
use Rattle.metrics_trees.specs.declared.leaves.Leaves.TheVariants.{Empty, One, Several}

abbrev pub recorders_of : {B : Type 0} {r : recorder.Ghosts B} → Leaves B r → List B
recorders_of Empty = []
recorders_of (One b) = b ∷ []
recorders_of (Several row) = row.recorders.items

-- there is room for so many recorders more
abbrev pub HasRoom : {B : Type 0} {r : recorder.Ghosts B} → ℕ → Leaves B r → Type 0
HasRoom n Empty = Unit {0}
HasRoom n (One b) = ⊥
HasRoom n (Several row) = HasSpare n row.recorders row.starts
