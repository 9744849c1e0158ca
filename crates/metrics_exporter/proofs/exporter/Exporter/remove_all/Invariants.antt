-- The series removed so far.
use Rattle.std.proofs.Common.{◌≡◌, take}
use Rattle.metrics_names.specs.Names.{SeriesKey}
use Rattle.metrics_exporter.specs.Kept.{held_cells, KeepsSetting}
use Rattle.metrics_exporter.specs.Stepping.{cells_without}
use Rattle.metrics_exporter.proofs.exporter.Exporter.remove_all.Given as goal

abbrev pub invariant-loop-series : goal.invariant-loop-series
invariant-loop-series l = record {
  cells : (s : SeriesKey) → held_cells l.self s ≡ cells_without (take l.series-index l.idle) (held_cells l.initial.self) s;
  storage : KeepsSetting l.initial.self.registry l.self.registry;
  recency : l.self.recency ≡ l.initial.self.recency;
  descriptions : l.self.descriptions ≡ l.initial.self.descriptions;
}
