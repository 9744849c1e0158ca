use Rattle.std.proofs.Common.{◌≤◌, map, ap, sym, ◌∙◌, subst, arith, append-nil}
use Rattle.metrics_trees.specs.Leaves.{recorders_of}
use Rattle.metrics_trees.specs.Recorders.{BooksFit, books_in, books_of, most_books}
use Rattle.std.proofs.Common.{◌+◌, length}
use Rattle.metrics_trees.proofs.leaves.Leaves.reserve.Goals as goal

pub push_reserved-requires-clause-few : goal.push_reserved-requires-clause-few
push_reserved-requires-clause-few g c =
    let m = g.B.Recorder.meaning in
    let one = c.in-One-replace.recorder in
    let few = subst (λ l. books_in (map m (recorders_of l)) ≤ most_books) (sym c.replace.ensures.value ∙ c.in-One-replace.is) c.requires.few in
    let all = ap length (append-nil (m one).contents) in
    let fits : 0 + books_of (m one) ≤ most_books = omega (arith, few, all) in
    subst (λ bs. BooksFit (map m bs) (m one)) (sym (c.in_ok-row-in-One.ensures {u = tt}).0) fits

pub returns-in-One-replace-clause-room : goal.returns-in-One-replace-clause-room
returns-in-One-replace-clause-room g c =
    let room = (c.in_ok-row-in-One.ensures {u = tt}).1 in
    c.push_reserved.ensures.spare c.args.additional ((let recorders = room.0 in omega (arith, recorders)), (let ends = room.1 in omega (arith, ends)))
