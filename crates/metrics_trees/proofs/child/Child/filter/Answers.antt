use Rattle.std.proofs.Common.{map, refl, ap, ◌∙◌}
use Rattle.metrics_rules.specs.Meanings.{rules_meaning}
use Rattle.metrics_trees.specs.Leaves.{recorders_of}
use Rattle.metrics_trees.specs.Over.{over}
use Rattle.metrics_trees.proofs.ChildLemmas.{same_child}
use Rattle.metrics_trees.proofs.OverLemmas.{over_filtered}
use Rattle.metrics_trees.proofs.child.Child.filter.Goals as goal

pub returns-in-Ok : goal.returns-in-Ok
returns-in-Ok g c =
    let all = map g.B.Recorder.meaning (recorders_of c.args.self.below.registrar.leaves) in
    let h = c.in-Ok.ensures {u = tt} in
    (h.0, ap (λ r. over r all) h.1 ∙ over_filtered c.args.layer.now.fold_case c.args.layer.now.listed (rules_meaning c.args.self.rules) all)

pub returns-in-Err : goal.returns-in-Err
returns-in-Err g c =
    let e = c.in-Err.ensures {u = tt} in
    (e.0, same_child _ c.args.self e.1 refl)
