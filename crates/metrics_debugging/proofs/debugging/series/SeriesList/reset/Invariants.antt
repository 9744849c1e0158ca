use Rattle.std.proofs.Common.{◌≡◌, length}
use Rattle.metrics.specs.Book.{after_reset, idle}
use Rattle.metrics_debugging.specs.DebuggingOrder.{series_of, activity_of}
use Rattle.metrics_debugging.proofs.ChangedLemmas.{first-changed}
use Rattle.metrics_debugging.proofs.debugging.series.SeriesList.reset.Given as goal

abbrev pub invariant-loop-series : goal.invariant-loop-series
invariant-loop-series l = record {
  count : length l.self.series.items ≡ length l.initial.self.series.items;
  values : series_of l.self ≡ first-changed l.series (after_reset l.reset) (series_of l.initial.self);
  activity : activity_of l.self ≡ first-changed l.series idle (activity_of l.initial.self);
}
