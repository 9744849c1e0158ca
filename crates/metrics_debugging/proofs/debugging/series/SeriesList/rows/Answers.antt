use Rattle.std.proofs.Common.{◌≡◌, ◌∙◌, ap, sym, refl, length, Some, slice_get}
use Rattle.std.proofs.lemmas.Option.{slice_get_read}
use Rattle.metrics_debugging.proofs.AgreesLemmas.{key-there}
use Rattle.metrics_debugging.proofs.debugging.series.SeriesList.rows.Goals as goal

pub row-requires : goal.row-requires
row-requires c =
    let self = c.args.self.now in
    let all = c.deref-stored-items.result.now in
    let s = c.loop-stored.stored-index in
    let x = c.stored-item.result in
    let at : slice_get self.series.items s ≡ Some x = ap (λ xs. slice_get xs s) (sym c.deref-stored-items.ensures.value) ∙ slice_get_read all (length all) s x refl c.loop-stored-test.true c.stored-item.is in
    key-there self.numbers self.series.items self.agree s x at
