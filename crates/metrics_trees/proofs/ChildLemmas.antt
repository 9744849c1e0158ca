-- A tree by its parts.
use Rattle.std.proofs.Common.{◌≡◌, length, subst, ap}
use Rattle.std.specs.Coded.{Coded-set, coded_ℕ}
use Rattle.metrics.specs.declared.recorder.Recorder as recorder
use Rattle.metrics_rules.specs.Nodes.{leaves_of}
use Rattle.metrics_rules.specs.Meanings.{rules_meaning}
use Rattle.metrics_rules.specs.declared.rules.Rules.{Rules}
use Rattle.metrics_trees.specs.Leaves.{recorders_of}
use Rattle.metrics_trees.specs.declared.child.Child.{Child}
use Rattle.metrics_trees.specs.declared.visits.Below.{Below}

module _ {B : Type 0} {r : recorder.Ghosts B} where
  abbrev AsMany : Rules → Below B r → Type 0
  AsMany n l = leaves_of (rules_meaning n) ≡ length (recorders_of l.registrar.leaves)

  abbrev tree : (n : Rules) (l : Below B r) → AsMany n l → Child B r
  tree n l a = record { rules = n; below = l; as_many = a }

  -- rules and what is below them make one tree at most
  pub same_child : (c d : Child B r) → c.rules ≡ d.rules → c.below ≡ d.below → c ≡ d
  same_child c d e f =
      subst (λ (n : Rules). (a : AsMany n d.below) → c ≡ tree n d.below a) e
      (subst (λ (l : Below B r). (a : AsMany c.rules l) → c ≡ tree c.rules l a) f
      (λ a. ap (tree c.rules c.below) (Coded-set coded_ℕ (leaves_of (rules_meaning c.rules)) (length (recorders_of c.below.registrar.leaves)) c.as_many a))) d.as_many
