-- A gauge with the number of series that a text leaves out.
use Rattle.std.specs.Prelude.{◌≡◌, ℕ, ℤ, pos, min, Bool, true, false, List, [], ◌∷◌, ◌++◌, codes}
use Rattle.metrics_names.specs.Names.{LabelParts}
use Rattle.metrics_names.specs.declared.kind.MetricKind.TheVariants.{Gauge}
use Rattle.metrics_descriptions.specs.Legends.{Legend}
use Rattle.metrics_exporter.specs.Exporting.{Cells, level}
use Rattle.metrics_exporter.specs.Gathering.{series_at}
use Rattle.metrics_exporter.specs.Readings.{KeyedReading, AreOnce, cells_of_readings}
use Rattle.metrics_prometheus.specs.Exposition.{IsDescribed}
use Rattle.metrics_prometheus.specs.LeftOut.{left_out_number}
use Rattle.metrics_exposition.specs.declared.naming.Naming.{Naming}
use Rattle.metrics_collector.specs.declared.gathered.GatheredSeries.{GatheredSeries}
use Rattle.metrics_collector.specs.Repeats.{repeated_lines}
use Rattle.metrics_exposition.specs.declared.naming.Naming.TheVariants.{AsGiven}

-- how many series a text leaves out; the greatest number of a gauge, if there are more
abbrev pub IsLeftOutNumber : List ℕ → ℤ → Type 0
IsLeftOutNumber text n = n ≡ pos (min (left_out_number text) 9223372036854775807)

-- the gauge of that number with the collector's labels
abbrev pub left_out_gauge : List LabelParts → ℤ → KeyedReading
left_out_gauge labels n = (series_at Gauge (record { name = codes "metrics_left_out_series"; labels = labels }), level n)

-- a text of that gauge alone
abbrev pub IsLeftOutGauge : List LabelParts → ℤ → List ℕ → Type 0
IsLeftOutGauge labels n text = (legend : Legend) × (kept : List KeyedReading) × AreOnce (left_out_gauge labels n ∷ []) kept
    × IsDescribed AsGiven legend (cells_of_readings kept) text

-- a text with the gauge of the number of series that it leaves out
abbrev pub IsCounted : List LabelParts → List ℕ → List ℕ → Type 0
IsCounted labels text all = (n : ℤ) × (gauge : List ℕ) × IsLeftOutNumber text n × IsLeftOutGauge labels n gauge × (all ≡ text ++ gauge)

-- the same, if there is to be such a gauge
abbrev pub IsEnded : Bool → List LabelParts → List ℕ → List ℕ → Type 0
IsEnded true labels text all = IsCounted labels text all
IsEnded false labels text all = all ≡ text

-- a text of these cells, with the gauge if there is to be one
abbrev pub IsScraped : Naming → Legend → Bool → List LabelParts → Cells → List ℕ → Type 0
IsScraped naming legend has_gauge labels cells all = (text : List ℕ) × IsDescribed naming legend cells text × IsEnded has_gauge labels text all

-- a text of these cells and with lines for rows that come again, with the gauge if there is to be one
abbrev pub IsScrapedOf : Naming → Legend → Bool → List LabelParts → Cells → List GatheredSeries → List ℕ → Type 0
IsScrapedOf naming legend has_gauge labels cells rows all = (text : List ℕ) × IsDescribed naming legend cells text
    × IsEnded has_gauge labels (text ++ repeated_lines [] rows) all
