use Rattle.std.proofs.Common.{sym, refl, arith}
use Rattle.metrics.specs.Book.{kind_of}
use Rattle.metrics.proofs.MeaningLemmas.{length-updates}
use Rattle.metrics_trees.proofs.JoinedLemmas.{holds_none}
use Rattle.metrics_trees.proofs.OneChildLemmas.{stay-one, put-updated}
use Rattle.metrics_trees.proofs.leaves.Leaves.update.Goals as goal

pub invariant_of-row : goal.invariant_of-row
invariant_of-row g c =
    let u = c.update-in-Some in
    let p = (put-updated c.in-Several.row c.in-Some.number c.index_mut.result.now c.index_mut.ensures.value c.args.at.book c.in-Some.book (c.in-Some.ensures {u = tt}) u.new.self u.ensures.keeps c.args.at.series c.args.by u.result u.ensures.updates).0 in
    record { starts_are = p.starts_are; count = p.count; most = c.in-Several.row.most }

pub returns-in-One-clause-stay : goal.returns-in-One-clause-stay
returns-in-One-clause-stay g c =
    let m = g.B.Recorder.meaning in
    let x = c.in-One.recorder in
    let y = c.update.new.self in
    rw c.in-One.is (stay-one m _ 0 x (omega arith) refl y c.update.ensures.keeps (length-updates (m x) (m y) _ _ _ c.update.ensures.updates))

pub returns-in-None : goal.returns-in-None
returns-in-None g c =
    rw c.in-Several.is (record { stay = record { count = refl; books = refl; same = λ kind ts. refl }; updates = (sym (holds_none (kind_of c.args.by) c.args.at.book c.args.at.series _ (c.in-None.ensures {u = tt})), refl) })

pub returns-in-Some : goal.returns-in-Some
returns-in-Some g c =
    let u = c.update-in-Some in
    let p = put-updated c.in-Several.row c.in-Some.number c.index_mut.result.now c.index_mut.ensures.value c.args.at.book c.in-Some.book (c.in-Some.ensures {u = tt}) u.new.self u.ensures.keeps c.args.at.series c.args.by u.result u.ensures.updates in
    rw c.in-Several.is (record { stay = p.0.stay; updates = p.1 })
