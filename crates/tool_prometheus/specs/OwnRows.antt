-- The series about the program itself, as the code has them.
use Rattle.std.specs.Prelude.{◌-◌, ◌^◌, pos, min, List, map}
use Rattle.metrics_names.specs.declared.kind.MetricKind.{MetricKind}
use Rattle.metrics_names.specs.declared.kind.MetricKind.TheVariants.{Counter, Gauge}
use Rattle.metrics_exporter.specs.Exporting.{Reading, count, level}
use Rattle.metrics_exporter.specs.Gathering.{series_at}
use Rattle.metrics_exporter.specs.Readings.{KeyedReading}
use Rattle.tool_prometheus.specs.declared.own.OwnReading.{OwnReading}
use Rattle.tool_prometheus.specs.declared.own.OwnReading.TheVariants as own
use Rattle.tool_prometheus.specs.declared.own.OwnSeries.{OwnSeries}

abbrev pub own_kind : OwnReading → MetricKind
own_kind (own.Count n) = Counter
own_kind (own.Level n) = Gauge

abbrev pub own_reading : OwnReading → Reading
own_reading (own.Count n) = count n
own_reading (own.Level n) = level (pos (min n (2 ^ 63 - 1)))

-- a series and what it has
abbrev pub keyed_own : OwnSeries → KeyedReading
keyed_own row = (series_at (own_kind row.reading) row.key, own_reading row.reading)

abbrev pub all_own : List OwnSeries → List KeyedReading
all_own rows = map keyed_own rows
