-- The units that descriptions give to updates, and how rows of a snapshot describe their names.
use Rattle.std.specs.Prelude.{ℕ, List, [], ◌∷◌, Option, None, Some}
use Rattle.metrics_names.specs.declared.common.Unit.{Unit as Measure}
use Rattle.metrics_names.specs.declared.kind.MetricKind.TheVariants.{Histogram}
use Rattle.metrics_names.specs.Names.{KeyParts, SeriesKey}
use Rattle.metrics.specs.declared.handles.Update.{Update}
use Rattle.metrics.specs.Book.{RowParts, kind_of}
use Rattle.metrics_descriptions.specs.Legends.{Legend, described_by, legend_described}
use Rattle.metrics_exporter.specs.declared.cells.UnitSource.{UnitSource}
use Rattle.metrics_exporter.specs.declared.cells.UnitSource.TheVariants.{Given, Described as DescribedBy}

-- the unit that the name of an update's series is described in, if any
abbrev pub unit_told : Legend → KeyParts → Update → Option Measure
unit_told legend key by = (legend (kind_of by) key.name).unit

-- the unit of a new histogram of a key, if any
abbrev pub unit_from : UnitSource → KeyParts → Option Measure
unit_from (Given unit) key = unit
unit_from (DescribedBy descriptions) key = (described_by descriptions.now Histogram key.name).unit

-- ---- the rows of a snapshot

-- a row that has a text describes its key's name by it, with its unit
abbrev pub legend_with : SeriesKey → Option Measure → Option (List ℕ) → Legend → Legend
legend_with s unit None keyed = keyed
legend_with s unit (Some text) keyed = legend_described s.kind s.key.name unit text keyed

abbrev pub legend_by_row : RowParts → Legend → Legend
legend_by_row row keyed = legend_with row.0 row.1 row.2 keyed

abbrev pub legend_by_rows : List RowParts → Legend → Legend
legend_by_rows [] keyed = keyed
legend_by_rows (row ∷ rows) keyed = legend_by_rows rows (legend_by_row row keyed)
