-- What a tree is made of, and what it means.
use Rattle.std.specs.Prelude.{map}
use Rattle.metrics.specs.declared.recorder.Recorder as recorder
use Rattle.metrics.specs.Meaning.{Meaning}
use Rattle.metrics_rules.specs.declared.rules.Rules.{Rules}
use Rattle.metrics_rules.specs.Meanings.{rules_meaning}
use Rattle.metrics_trees.specs.Leaves.{recorders_of}
use Rattle.metrics_trees.specs.Over.{over}
use Rattle.metrics_trees.specs.declared.child.Child.{Child}

-- the rules of a tree
abbrev pub rules_of : {B : Type 0} {r : recorder.Ghosts B} → Child B r → Rules
rules_of c = c.rules

-- a tree means its recorders under its rules
abbrev pub tree_meaning : {B : Type 0} {r : recorder.Ghosts B} → (B → Meaning) → Child B r → Meaning
tree_meaning m c = over (rules_meaning c.rules) (map m (recorders_of c.below.registrar.leaves))
