use Rattle.std.proofs.Common.{◌∙◌, ◌+◌, ◌∷◌, [], drop, List, ap, sym, subst, arith}
use Rattle.std.proofs.lemmas.List.{at_drop_more, at_drop_all}
use Rattle.metrics_exporter.specs.Exporting.{Cells}
use Rattle.metrics_exporter.specs.Readings.{KeyedReading, AreReadings, keyed_readings}
use Rattle.tool_prometheus.specs.declared.own.OwnSeries.{OwnSeries}
use Rattle.tool_prometheus.specs.Own.{with_own, with_series}
use Rattle.tool_prometheus.specs.OwnRows.{all_own}
use Rattle.tool_prometheus.proofs.own.set_own.Goals as goal

pub loop-one-preserved : goal.loop-one-preserved
loop-one-preserved c = λ cells are.
    let own : List OwnSeries = c.args.own.now in
    let i = c.loop-one.one-index in
    let x : OwnSeries = c.one-item.result in
    let rest = drop (i + 1) own in
    let (at, reads, same) = c.loop-one.invariant cells are in
    let F : List OwnSeries → Cells = λ l. with_own (all_own l) at in
    let given : AreReadings at (keyed_readings c.loop-one.all.items) = reads in
    let set = c.in_ok-all.ensures at given in (
      with_own (all_own (x ∷ [])) at,
      subst (λ (t : KeyedReading). AreReadings (with_series t at) (keyed_readings c.in_ok-all.all.items)) c.reading.ensures set,
      ap (λ (y : OwnSeries). F (y ∷ rest)) c.one-item.is ∙ sym (at_drop_more F own i x c.loop-one-test.true) ∙ same,
    )

pub returns : goal.returns
returns c = λ cells are.
    let own : List OwnSeries = c.args.own.now in
    let (at, reads, same) = c.loop-one.invariant cells are in
    let F : List OwnSeries → Cells = λ l. with_own (all_own l) at in
    subst (λ (z : Cells). AreReadings z (keyed_readings c.loop-one.all.items)) (sym (at_drop_all F own c.loop-one.one-index (omega arith)) ∙ same) reads
