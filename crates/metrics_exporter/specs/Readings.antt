-- Series with what they have, by reference.
use Rattle.std.specs.Prelude.{◌≡◌, ◌↔◌, List, map, Option, Some, Contains, option_map}
use Rattle.std.specs.List.{AllByRecursion, IsDistinct}
use Rattle.std.specs.Map.{lookup}
use Rattle.metrics_names.specs.declared.kind.MetricKind.{MetricKind}
use Rattle.metrics_names.specs.declared.kind.MetricKind.TheVariants.{Counter, Gauge, Histogram}
use Rattle.metrics_names.specs.Names.{SeriesKey, series_key_eq}
use Rattle.metrics_exporter.specs.declared.series.SeriesRef.{SeriesRef}
use Rattle.metrics_exporter.specs.declared.readings.ReadingRef.{ReadingRef}
use Rattle.metrics_exporter.specs.declared.readings.ReadingRef.TheVariants as shown
use Rattle.metrics_exporter.specs.declared.readings.SeriesReading.{SeriesReading}
use Rattle.metrics_exporter.specs.Exporting.{Reading, count, level, samples, Cells, IsHeld}
use Rattle.metrics_exporter.specs.Gathering.{series_at, series_shown, cell_shown}

-- a series and what it has
abbrev pub KeyedReading : Type 0
KeyedReading = SeriesKey × Reading

abbrev pub reading_shown : ReadingRef → Reading
reading_shown (shown.Count n) = count n
reading_shown (shown.Level n) = level n
reading_shown (shown.Samples h) = samples h.now

-- the kind of the series that has it
abbrev pub kind_shown : ReadingRef → MetricKind
kind_shown (shown.Count n) = Counter
kind_shown (shown.Level n) = Gauge
kind_shown (shown.Samples h) = Histogram

-- what a reference shows
abbrev pub keyed_reading : SeriesReading → KeyedReading
keyed_reading r = (series_at (kind_shown r.reading) r.key.now, reading_shown r.reading)

abbrev pub keyed_readings : List SeriesReading → List KeyedReading
keyed_readings rs = map keyed_reading rs

-- what a reference to a held series shows
abbrev pub series_read : SeriesRef → KeyedReading
series_read s = (series_shown s, (cell_shown s.cell).reading)

abbrev pub all_read : List SeriesRef → List KeyedReading
all_read rows = map series_read rows

abbrev pub reading_in : Cells → SeriesKey → Option Reading
reading_in cells s = option_map (λ c. c.reading) (cells s)

-- each held series once, in some order, with what it has
pub record AreReadings (cells : Cells) (keyed : List KeyedReading) : Type 0 where
  pub once : IsDistinct series_key_eq (map (λ t. t.0) keyed)
  pub held : (s : SeriesKey) → Contains (map (λ t. t.0) keyed) s ↔ IsHeld cells s
  pub readings : AllByRecursion (λ t. reading_in cells t.0 ≡ Some t.1) keyed

-- the cells that a list of series reports, the first if one comes again
abbrev pub cells_of_readings : List KeyedReading → Cells
cells_of_readings keyed s = option_map (λ r. record { reading = r; generation = 0 }) (lookup (series_key_eq s) keyed)

-- of series with what they have each series once
pub record AreOnce (keyed kept : List KeyedReading) : Type 0 where
  pub once : IsDistinct series_key_eq (map (λ t. t.0) kept)
  pub among : (t : KeyedReading) → Contains kept t → Contains keyed t
  pub all : (s : SeriesKey) → Contains (map (λ t. t.0) keyed) s → Contains (map (λ t. t.0) kept) s
