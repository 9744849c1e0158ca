use Rattle.std.proofs.Common.{◌<◌, map, arith, subst}
use Rattle.metrics_trees.specs.Places.{IsLast}
use Rattle.metrics_trees.specs.Recorders.{books_in}
use Rattle.metrics_trees.proofs.PlacesLemmas.{place_is}
use Rattle.metrics_trees.proofs.row.Row.place_of.Goals as goal

pub returns : goal.returns
returns g c =
    let s = c.args.self.now in
    let all = map g.B.Recorder.meaning s.recorders.items in
    let lt : c.args.book < books_in all = (let l = c.if-book-self.false in omega (arith, l, s.count)) in
    place_is s.starts.items all s.starts_are c.args.book lt c.last_start-number.result
    (subst (λ ns. IsLast ns c.args.book c.last_start-number.result) c.deref.ensures.value c.last_start-number.ensures) c.index.result.now c.index.ensures
