use Rattle.std.proofs.Common.{◌+◌, map, take, ap, sym, ◌∙◌, arith}
use Rattle.std.proofs.lemmas.Bool.Decides.{nat_tests}
use Rattle.std.proofs.lemmas.List.{map_more, take_all}
use Rattle.metrics_rules.proofs.JoinedLemmas.{leaves-one}
use Rattle.metrics_trees.specs.Recorders.{books_of, books_in}
use Rattle.metrics_trees.proofs.row.are_few.Goals as goal

pub loop-recorder-preserved : goal.loop-recorder-preserved
loop-recorder-preserved g c =
    let m = g.B.Recorder.meaning in
    let l = c.loop-recorder in
    let b = c.recorder-item.result in
    let front = map m (take l.recorder-index c.args.recorders.now) in
    let more =
    ap books_in (map_more m c.args.recorders.now l.recorder-index b c.loop-recorder-test.true) ∙ leaves-one front _ ∙ ap (λ x. books_in front + books_of (m x)) (sym c.recorder-item.is) in
    omega (arith, more, l.invariant, c.books.ensures.count, c.saturating_add-books.ensures)

pub returns : goal.returns
returns g c =
    let all = ap (λ xs. books_in (map g.B.Recorder.meaning xs)) (take_all c.loop-recorder.recorder-index c.args.recorders.now (omega (arith, c.loop-recorder-test.false))) in
    grind (arith, nat_tests, all)
