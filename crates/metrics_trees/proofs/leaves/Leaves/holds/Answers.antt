use Rattle.std.proofs.Common.{◌∙◌}
use Rattle.metrics_trees.proofs.OneChildLemmas.{holds-place}
use Rattle.metrics_trees.proofs.leaves.Leaves.holds.Goals as goal

pub returns-in-Some : goal.returns-in-Some
returns-in-Some g c =
    rw c.in-Several.is (c.holds-in-Some.ensures ∙ holds-place c.in-Several.row c.in-Some.number c.index.result.now c.index.ensures c.args.at.book c.in-Some.book (c.in-Some.ensures {u = tt}) c.args.kind c.args.at.series)
