-- The kind of a cell.
use Rattle.metrics_names.specs.declared.kind.MetricKind.{MetricKind}
use Rattle.metrics_names.specs.declared.kind.MetricKind.TheVariants.{Counter, Gauge, Histogram}
use Rattle.metrics_exporter.specs.declared.series.CellRef.{CellRef}
use Rattle.metrics_exporter.specs.declared.series.CellRef.TheVariants as shown

-- the kind of the series that has it
abbrev pub cell_kind : CellRef → MetricKind
cell_kind (shown.Counter c) = Counter
cell_kind (shown.Gauge c) = Gauge
cell_kind (shown.Histogram c) = Histogram
