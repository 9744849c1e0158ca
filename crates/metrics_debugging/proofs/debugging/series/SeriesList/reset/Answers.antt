use Rattle.std.proofs.Common.{◌≡◌, ◌<◌, ◌≤◌, ◌∙◌, length, length-set, arith, ap, refl, Some, slice_get}
use Rattle.std.proofs.lemmas.Option.{slice_get_read}
use Rattle.std.proofs.lemmas.List.{length-map}
use Rattle.metrics.specs.Book.{after_reset, idle}
use Rattle.metrics.specs.Targets.{change_at}
use Rattle.metrics_debugging.specs.declared.debugging.series.Stored.{Stored}
use Rattle.metrics_debugging.specs.DebuggingOrder.{series_of, activity_of}
use Rattle.metrics_debugging.specs.DebuggingSeries.{series_at, is_active}
use Rattle.metrics_debugging.proofs.ChangedLemmas.{reset-step, activity-changed, agree-changed, first-more, first-all}
use Rattle.metrics_debugging.proofs.debugging.series.SeriesList.reset.Goals as goal

pub invariant_of-self : goal.invariant_of-self
invariant_of-self c =
    let self = c.loop-series.self in
    let s = c.loop-series.series in
    let x = c.index_mut.result.now in
    let y : Stored = c.reset.new.self in
    let small : s < length self.series.items = omega (arith, c.loop-series-test.true, c.len-series-end.ensures, c.args.self.now.series.ok.0, c.loop-series.invariant.count) in
    let at : slice_get self.series.items s ≡ Some x = slice_get_read self.series.items (length self.series.items) s x refl small c.index_mut.ensures.value in
    record { agree = agree-changed self.numbers self.series.items s x y at c.reset.ensures.stays self.agree }

pub loop-series-preserved : goal.loop-series-preserved
loop-series-preserved c =
    let self = c.loop-series.self in
    let s = c.loop-series.series in
    let x = c.index_mut.result.now in
    let y : Stored = c.reset.new.self in
    let small : s < length self.series.items = omega (arith, c.loop-series-test.true, c.len-series-end.ensures, c.args.self.now.series.ok.0, c.loop-series.invariant.count) in
    let at : slice_get self.series.items s ≡ Some x = slice_get_read self.series.items (length self.series.items) s x refl small c.index_mut.ensures.value in
    let step = reset-step self.numbers self.series.items s x y at c.reset.ensures.stays c.args.reset c.reset.ensures.value in
    record {
      count = length-set self.series.items s y ∙ c.loop-series.invariant.count;
      values = step ∙ (ap (change_at s (after_reset c.args.reset)) c.loop-series.invariant.values ∙ first-more s (after_reset c.args.reset) (series_of c.args.self.now));
      activity = activity-changed self.series.items s x y at idle c.reset.ensures.idle ∙ (ap (change_at s idle) c.loop-series.invariant.activity ∙ first-more s idle (activity_of c.args.self.now));
    }

pub returns : goal.returns
returns c =
    let old = c.args.self.now in
    let past : length (series_of old) ≤ c.loop-series.series = omega (arith, c.loop-series-test.false, c.len-series-end.ensures, old.series.ok.0, length-map old.series.items (series_at old.numbers)) in
    let some : length (activity_of old) ≤ c.loop-series.series = omega (arith, c.loop-series-test.false, c.len-series-end.ensures, old.series.ok.0, length-map old.series.items is_active) in
    record {
      series = c.loop-series.invariant.values ∙ first-all c.loop-series.series (after_reset c.args.reset) (series_of old) past;
      idle = c.loop-series.invariant.activity ∙ first-all c.loop-series.series idle (activity_of old) some;
    }
