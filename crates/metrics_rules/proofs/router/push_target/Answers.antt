use Rattle.std.proofs.Common.{arith}
use Rattle.metrics_rules.proofs.router.push_target.Goals.{then-is_empty, else-is_empty}
use Rattle.metrics_rules.proofs.router.push_target.Goals as goal

pub push_reserved-requires-2-clause-spare : goal.push_reserved-requires-2-clause-spare
push_reserved-requires-2-clause-spare c =
    elim c.if-is_empty.branch [
      | then-is_empty w ↦ rw w.branches-is (w.push_reserved.ensures.spare 1 c.requires.spare)
      | else-is_empty w ↦ rw w.branches-is (let s = c.requires.spare.0 in omega (arith, s), let s = c.requires.spare.1 in omega (arith, s))
    ]
