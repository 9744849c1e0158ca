use Rattle.std.proofs.Common.{◌≡◌, ◌<◌, length, arith, true, refl, Some, slice_get}
use Rattle.std.proofs.lemmas.List.{length-map}
use Rattle.std.proofs.lemmas.Option.{slice_get_read}
use Rattle.metrics_debugging.specs.declared.debugging.series.Stored.{Stored}
use Rattle.metrics_debugging.specs.DebuggingSeries.{is_active}
use Rattle.metrics_debugging.specs.DebuggingOrder.{activity_of}
use Rattle.metrics_debugging.proofs.ChangedLemmas.{kept-all, activity-changed, past-active, agree-changed}
use Rattle.metrics_debugging.proofs.debugging.series.SeriesList.touch.Goals as goal

pub invariant_of-self : goal.invariant_of-self
invariant_of-self c =
    let self = c.args.self.now in
    let x = c.index_mut.result.now in
    let y : Stored = record x { active = true } in
    let small : c.args.series < length self.series.items = omega (arith, c.if-series-len.true, c.len.ensures, self.series.ok.0) in
    let at : slice_get self.series.items c.args.series ≡ Some x = slice_get_read self.series.items (length self.series.items) c.args.series x refl small c.index_mut.ensures.value in
    record { agree = agree-changed self.numbers self.series.items c.args.series x y at refl self.agree }

pub returns-then-series-len-clause-series : goal.returns-then-series-len-clause-series
returns-then-series-len-clause-series c =
    let self = c.args.self.now in
    let x = c.index_mut.result.now in
    let y : Stored = record x { active = true } in
    let small : c.args.series < length self.series.items = omega (arith, c.if-series-len.true, c.len.ensures, self.series.ok.0) in
    let at : slice_get self.series.items c.args.series ≡ Some x = slice_get_read self.series.items (length self.series.items) c.args.series x refl small c.index_mut.ensures.value in
    kept-all self.numbers self.series.items c.args.series x y at refl refl

pub returns-then-series-len-clause-active : goal.returns-then-series-len-clause-active
returns-then-series-len-clause-active c =
    let self = c.args.self.now in
    let x = c.index_mut.result.now in
    let y : Stored = record x { active = true } in
    let small : c.args.series < length self.series.items = omega (arith, c.if-series-len.true, c.len.ensures, self.series.ok.0) in
    let at : slice_get self.series.items c.args.series ≡ Some x = slice_get_read self.series.items (length self.series.items) c.args.series x refl small c.index_mut.ensures.value in
    activity-changed self.series.items c.args.series x y at (λ _. true) refl

pub returns-else-series-len-clause-active : goal.returns-else-series-len-clause-active
returns-else-series-len-clause-active c =
    let self = c.args.self.now in
    past-active (activity_of self) c.args.series (omega (arith, c.if-series-len.false, c.len.ensures, self.series.ok.0, length-map self.series.items is_active))
