use Rattle.std.proofs.Common.{◌∙◌, List, refl, ap}
use Rattle.std.proofs.lemmas.List.{take_all}
use Rattle.metrics_names.specs.Names.{SeriesKey}
use Rattle.metrics_exporter.specs.Kept.{held_cells}
use Rattle.metrics_exporter.specs.Stepping.{cells_without}
use Rattle.metrics_exporter.proofs.ExpiryLemmas.{removed-next}
use Rattle.metrics_exporter.proofs.exporter.Exporter.remove_all.Goals as goal

pub loop-series-init : goal.loop-series-init
loop-series-init c = record { cells = λ s. refl; storage = (refl, refl); recency = refl; descriptions = refl }

pub loop-series-preserved : goal.loop-series-preserved
loop-series-preserved c =
    let was = c.loop-series.invariant in
    let done = c.remove_series.ensures in
    record {
      cells = λ t. removed-next c.args.idle.now c.loop-series.series-index c.series-item.result t _ _ _ c.loop-series-test.true c.series-item.is (was.cells t) (done.cells t);
      storage = (done.storage.0 ∙ was.storage.0, done.storage.1 ∙ was.storage.1);
      recency = was.recency;
      descriptions = was.descriptions;
    }

pub returns : goal.returns
returns c =
    let was = c.loop-series.invariant in
    let all = take_all c.loop-series.series-index c.args.idle.now c.loop-series-test.false in
    record {
      cells = λ s. was.cells s ∙ ap (λ (g : List SeriesKey). cells_without g (held_cells c.args.self.now) s) all;
      storage = was.storage;
      rest = (was.recency, was.descriptions);
    }
