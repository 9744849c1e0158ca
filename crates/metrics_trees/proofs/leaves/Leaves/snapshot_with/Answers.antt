use Rattle.std.proofs.Common.{refl, arith}
use Rattle.metrics.proofs.MeaningLemmas.{length-snapshots}
use Rattle.metrics_trees.proofs.OneChildLemmas.{stay-one, put-read}
use Rattle.metrics_trees.proofs.leaves.Leaves.snapshot_with.Goals as goal

pub invariant_of-row : goal.invariant_of-row
invariant_of-row g c =
    let u = c.snapshot_with-in-Some in
    let p = (put-read c.in-Several.row c.in-Some.number c.index_mut.result.now c.index_mut.ensures.value c.args.book c.in-Some.there (c.in-Some.ensures {u = tt}) u.new.self u.ensures.keeps c.args.reset _ u.ensures.snapshots).0 in
    record { starts_are = p.starts_are; count = p.count; most = c.in-Several.row.most }

pub returns-in-One-clause-stay : goal.returns-in-One-clause-stay
returns-in-One-clause-stay g c =
    let m = g.B.Recorder.meaning in
    let x = c.in-One.recorder in
    let y = c.snapshot_with.new.self in
    rw c.in-One.is (stay-one m _ 0 x (omega arith) refl y c.snapshot_with.ensures.keeps (length-snapshots (m x) (m y) _ _ _ c.snapshot_with.ensures.snapshots))

pub returns-in-None : goal.returns-in-None
returns-in-None g c = rw c.in-Several.is (record { stay = record { count = refl; books = refl; same = λ kind ts. refl }; snapshots = (c.in-None.ensures {u = tt}, refl) })

pub returns-in-Some : goal.returns-in-Some
returns-in-Some g c =
    let u = c.snapshot_with-in-Some in
    let p = put-read c.in-Several.row c.in-Some.number c.index_mut.result.now c.index_mut.ensures.value c.args.book c.in-Some.there (c.in-Some.ensures {u = tt}) u.new.self u.ensures.keeps c.args.reset _ u.ensures.snapshots in
    rw c.in-Several.is (record { stay = p.0.stay; snapshots = p.1 })
