use Rattle.std.proofs.Common.{◌≡◌, ◌<◌, length, arith, refl, Some, slice_get}
use Rattle.std.proofs.lemmas.Option.{slice_get_read}
use Rattle.metrics_debugging.specs.declared.debugging.series.Stored.{Stored}
use Rattle.metrics_debugging.proofs.ChangedLemmas.{update-step, activity-step, agree-changed}
use Rattle.metrics_debugging.proofs.debugging.series.SeriesList.update.Goals as goal

pub invariant_of-self : goal.invariant_of-self
invariant_of-self c =
    let self = c.args.self.now in
    let x = c.index_mut.result.now in
    let y : Stored = c.update.new.self in
    let small : c.args.series < length self.series.items = omega (arith, c.if-series-len.false, c.len.ensures, self.series.ok.0) in
    let at : slice_get self.series.items c.args.series ≡ Some x = slice_get_read self.series.items (length self.series.items) c.args.series x refl small c.index_mut.ensures.value in
    record { agree = agree-changed self.numbers self.series.items c.args.series x y at c.update.ensures.stays self.agree }

pub returns-clause-updates : goal.returns-clause-updates
returns-clause-updates c =
    let self = c.args.self.now in
    let x = c.index_mut.result.now in
    let y : Stored = c.update.new.self in
    let small : c.args.series < length self.series.items = omega (arith, c.if-series-len.false, c.len.ensures, self.series.ok.0) in
    let at : slice_get self.series.items c.args.series ≡ Some x = slice_get_read self.series.items (length self.series.items) c.args.series x refl small c.index_mut.ensures.value in
    update-step self.numbers self.series.items c.args.series x y at c.update.ensures.stays c.args.by c.update.result c.update.ensures.updates

pub returns-clause-active : goal.returns-clause-active
returns-clause-active c =
    let self = c.args.self.now in
    let x = c.index_mut.result.now in
    let small : c.args.series < length self.series.items = omega (arith, c.if-series-len.false, c.len.ensures, self.series.ok.0) in
    let at : slice_get self.series.items c.args.series ≡ Some x = slice_get_read self.series.items (length self.series.items) c.args.series x refl small c.index_mut.ensures.value in
    activity-step self.series.items c.args.series x c.update.new.self at c.update.result c.update.ensures.active
