use Rattle.metrics.proofs.MeaningLemmas.{length-describes}
use Rattle.metrics_trees.proofs.OneChildLemmas.{put-back}
use Rattle.metrics_trees.proofs.leaves.Leaves.describe.Goals as goal

pub invariant_of-row : goal.invariant_of-row
invariant_of-row g c =
    let m = g.B.Recorder.meaning in
    let y = c.describe-in-Several.new.self in
    let h = c.describe-in-Several.ensures in
    let p = put-back c.in-Several.row c.args.leaf c.index_mut.result.now c.index_mut.ensures.value (rw c.in-Several.is at c.requires) y h.keeps (length-describes (m c.index_mut.result.now) (m y) c.args.kind c.args.name.now c.args.unit c.args.text.now _ h.describes) in
    record { starts_are = p.starts_are; count = p.count; most = c.in-Several.row.most }
