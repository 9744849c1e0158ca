use Rattle.std.proofs.Common.{◌∙◌, ap, sym, subst}
use Rattle.std.specs.Prelude.{All}
use Rattle.std.proofs.lemmas.List.{take_all}
use Rattle.std.proofs.lemmas.List.Elements.{All-map, All-more}
use Rattle.metrics_descriptions.specs.Legends.{described_by}
use Rattle.metrics_exposition.specs.Naming.{display_by}
use Rattle.metrics_exporter.specs.Readings.{KeyedReading}
use Rattle.metrics_exposition.specs.Labels.{AreReady}
use Rattle.metrics_exposition.specs.Reading.{IsOfKind}
use Rattle.metrics_prometheus.specs.Rows.{pair_of, HasTexts}
use Rattle.metrics_prometheus.proofs.RowLemmas.{rows-more}
use Rattle.metrics_prometheus.proofs.OneHeadLemmas.{have-more, have-one}
use Rattle.metrics_prometheus.proofs.rows.rows_of.Goals as goal

pub row_of-requires-clause-ready : goal.row_of-requires-clause-ready
row_of-requires-clause-ready g c = λ is. subst (λ (t : KeyedReading). AreReady t.0.key.labels) (sym c.reading.ensures) (c.has_ready_labels.ensures is)

pub loop-one-preserved : goal.loop-one-preserved
loop-one-preserved g c =
    let keyed = g.S.ReadSeries.keyed in
    let series = c.args.series.now in
    let i = c.loop-one.one-index in
    let one = c.one-item.result in
    let display = display_by c.args.naming (described_by c.args.descriptions.now) (g.P.DecimalPlaces.places c.args.scale.now) in
    let row = c.in_ok-row.row in
    let same = c.reading.ensures in
    record {
      only = have-more c.loop-one.last c.row_of.new.last c.loop-one.rows.items c.push.new.self.items row c.in_ok-push.ensures.items c.in_ok-row.ensures.follows c.loop-one.invariant.only;
      last = c.row_of.ensures.last;
      rows = rows-more keyed display c.loop-one.rows.items c.push.new.self.items series i row one c.loop-one-test.true c.one-item.is c.in_ok-push.ensures.items (c.in_ok-row.ensures.row ∙ ap (pair_of display) same) c.loop-one.invariant.rows;
      texts = All-more (λ s. HasTexts (keyed s)) series i one c.loop-one-test.true c.loop-one.invariant.texts (subst (λ s. HasTexts (keyed s)) c.one-item.is (subst HasTexts same c.in_ok-row.ensures.texts));
      kinds = All-more (λ s. IsOfKind (keyed s)) series i one c.loop-one-test.true c.loop-one.invariant.kinds (subst (λ s. IsOfKind (keyed s)) c.one-item.is (subst IsOfKind same c.in_ok-row.ensures.kind));
    }

pub returns-clause-texts : goal.returns-clause-texts
returns-clause-texts g c =
    let keyed = g.S.ReadSeries.keyed in
    All-map HasTexts keyed c.args.series.now (subst (All (λ s. HasTexts (keyed s))) (take_all c.loop-one.one-index c.args.series.now c.loop-one-test.false) c.loop-one.invariant.texts)

pub returns-clause-kinds : goal.returns-clause-kinds
returns-clause-kinds g c =
    let keyed = g.S.ReadSeries.keyed in
    All-map IsOfKind keyed c.args.series.now (subst (All (λ s. IsOfKind (keyed s))) (take_all c.loop-one.one-index c.args.series.now c.loop-one-test.false) c.loop-one.invariant.kinds)

pub returns-clause-one : goal.returns-clause-one
returns-clause-one g c = λ is. have-one c.loop-one.last c.loop-one.rows.items c.loop-one.invariant.only (sym c.is_only-have_one_head.ensures ∙ is)
