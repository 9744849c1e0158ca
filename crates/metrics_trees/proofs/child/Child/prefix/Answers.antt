use Rattle.std.proofs.Common.{map, refl, ap}
use Rattle.metrics_trees.specs.Leaves.{recorders_of}
use Rattle.metrics_trees.specs.Over.{over}
use Rattle.metrics_trees.proofs.ChildLemmas.{same_child}
use Rattle.metrics_trees.proofs.child.Child.prefix.Goals as goal

pub returns-in-Ok : goal.returns-in-Ok
returns-in-Ok g c = ap (λ r. over r (map g.B.Recorder.meaning (recorders_of c.args.self.below.registrar.leaves))) (c.in-Ok.ensures {u = tt})

pub returns-in-Err : goal.returns-in-Err
returns-in-Err g c =
    let e = c.in-Err.ensures {u = tt} in
    (e.0, same_child _ c.args.self e.1 refl)
