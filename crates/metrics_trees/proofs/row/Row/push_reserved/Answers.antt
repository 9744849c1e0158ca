use Rattle.std.proofs.Common.{◌∷◌, [], map, ap, sym, ◌∙◌, arith}
use Rattle.std.proofs.lemmas.List.{map-append}
use Rattle.metrics_rules.specs.Nodes.{starts_from}
use Rattle.metrics_trees.specs.Recorders.{books_in}
use Rattle.metrics_rules.proofs.JoinedLemmas.{leaves-one, starts-pushed}
use Rattle.metrics_trees.proofs.row.Row.push_reserved.Goals as goal

pub overflow_add-end : goal.overflow_add-end
overflow_add-end g c = omega (arith, c.args.self.now.count, c.books.ensures.count, c.requires.few)

pub invariant_of-self : goal.invariant_of-self
invariant_of-self g c =
    let m = g.B.Recorder.meaning in
    let s = c.args.self.now in
    let xs = map m s.recorders.items in
    let a = m c.args.recorder in
    let more = ap (map m) c.push_reserved.ensures.items ∙ map-append m s.recorders.items (c.args.recorder ∷ []) in
    let all = ap books_in more ∙ leaves-one xs a in
    record {
      starts_are = c.push_reserved-2.ensures.items ∙ starts-pushed xs a s.starts.items s.books s.starts_are s.count ∙ ap (starts_from 0) (sym more);
      count = omega (arith, all, s.count, c.books.ensures.count);
      most = omega (arith, s.count, c.books.ensures.count, c.requires.few);
    }
