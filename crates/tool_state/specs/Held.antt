-- The state of an exporter: calls that make what it holds.
use Rattle.std.specs.Prelude.{◌≡◌, ℕ, ℤ, ◌<◌, ◌^◌, List, [], ◌∷◌, ◌++◌, Option, None, map}
use Rattle.std.specs.List.{AllByRecursion}
use Rattle.metrics_names.specs.declared.kind.MetricKind.TheVariants.{Counter, Gauge, Histogram}
use Rattle.metrics_names.specs.Names.{KeyParts, SeriesKey}
use Rattle.metrics_names.specs.declared.common.Unit.{Unit as Measure}
use Rattle.metrics.specs.declared.handles.Update.TheVariants.{Increment, Set, Record}
use Rattle.metrics_storage.specs.Histogram.{bounds_of}
use Rattle.metrics_exporter.specs.declared.exporter.Exporter.{Exporter}
use Rattle.metrics_exporter.specs.Exporting.{Setup, Log, count, level, samples, Cells, IsHeld}
use Rattle.metrics_descriptions.specs.Legends.{SameLegend, no_legend}
use Rattle.metrics_exporter.specs.Kept.{IsAfter, held_cells, described}
use Rattle.metrics_exporter.specs.Readings.{KeyedReading, AreReadings, reading_in}
use Rattle.metrics_exposition.specs.declared.naming.Naming.{Naming}
use Rattle.metrics_prometheus.specs.Exposition.{IsScaled}
use Rattle.tool_requests.specs.declared.requests.Request.TheVariants.{Change}
use Rattle.tool_state.specs.Runs.{Run, AreSamplesOf}
use Rattle.tool_state.specs.State.{Entry, IsState, ReadsState, calls_of, legend_of}

-- ---- what is held

-- the bounds of histograms, by the unit that each is made in, if any, and by its name
abbrev pub BoundsBy : Type 0
BoundsBy = Option Measure → List ℕ → List ℤ

abbrev pub recorded : Option Measure → KeyParts → Run → Entry
recorded unit key r = (r.0, unit, Change key (Record r.1))

-- the exporter makes histograms at these bounds
abbrev pub MakesAt : Exporter → BoundsBy → Type 0
MakesAt on bounds = (setup : Setup) (log : Log) → IsAfter setup log on
    → (unit : Option Measure) (name : List ℕ) → bounds unit name ≡ setup.bounds unit name

-- The entries make what a new series has. Those of a histogram have one unit, in which it is made at its bounds.
abbrev pub MakeReading : BoundsBy → KeyedReading → List Entry → Type 0
MakeReading bounds (s, count n) entries = (s.kind ≡ Counter) × (n < 2 ^ 64)
    × (entries ≡ (1, None, Change s.key (Increment n)) ∷ [])
MakeReading bounds (s, level n) entries = (s.kind ≡ Gauge) × (entries ≡ (1, None, Change s.key (Set n)) ∷ [])
MakeReading bounds (s, samples d) entries = (s.kind ≡ Histogram) × ((unit : Option Measure) × (runs : List Run)
    × (bounds unit s.key.name ≡ bounds_of d) × AreSamplesOf runs d × (entries ≡ map (recorded unit s.key) runs))

abbrev pub MakeReadings : BoundsBy → List KeyedReading → List Entry → Type 0
MakeReadings bounds [] entries = entries ≡ []
MakeReadings bounds (k ∷ keyed) entries = (own others : List Entry) × MakeReading bounds k own × MakeReadings bounds keyed others
    × (entries ≡ own ++ others)

-- the entries describe the names of these series as the exporter does, and call nothing
abbrev pub MakeLegend : Exporter → List KeyedReading → List Entry → Type 0
MakeLegend on keyed entries = (calls_of entries ≡ [])
    × AllByRecursion (λ k. legend_of entries no_legend k.0.kind k.0.key.name ≡ described on k.0.kind k.0.key.name) keyed

-- the entries describe the names of the exporter's series, and make what it has of each
abbrev pub MakeHeld : Exporter → List Entry → Type 0
MakeHeld on entries = (bounds : BoundsBy) × (keyed : List KeyedReading) × (notes own : List Entry)
    × MakesAt on bounds × AreReadings (held_cells on) keyed × MakeLegend on keyed notes × MakeReadings bounds keyed own
    × (entries ≡ notes ++ own)

-- the bytes are a state of this title that makes what the exporter holds
abbrev pub IsStateOf : List ℕ → Exporter → List ℕ → Type 0
IsStateOf title on bytes = (entries : List Entry) × IsState title bytes entries × MakeHeld on entries

-- ---- the law

-- the same series with the same values
abbrev pub SameReadings : Cells → Cells → Type 0
SameReadings a b = (s : SeriesKey) → reading_in a s ≡ reading_in b s

-- the names of what is held in cells are described the same
abbrev pub SameNames : Cells → Exporter → Exporter → Type 0
SameNames cells a b = (s : SeriesKey) → IsHeld cells s → described a s.kind s.key.name ≡ described b s.kind s.key.name

-- they have one exposition, in each naming and with any decimal places
abbrev pub SameTexts : Exporter → Exporter → Type 0
SameTexts a b = (naming : Naming) (places : List ℕ → ℕ) (x y : List ℕ) → IsScaled naming (described a) places (held_cells a) x
    → IsScaled naming (described b) places (held_cells b) y → x ≡ y

-- A new exporter that counts at the same bounds and reads a state of another one holds the same series with the same values, and
-- describes their names as that one. So both have one text.
abbrev pub ReadingGivesSame : Type 0
ReadingGivesSame = (setup next : Setup) (log : Log) (title bytes : List ℕ) (old fresh new : Exporter) → next.bounds ≡ setup.bounds
    → IsAfter setup log old → IsStateOf title old bytes → IsAfter next [] fresh → SameLegend (described fresh) no_legend → ReadsState title bytes fresh new
    → SameReadings (held_cells new) (held_cells old) × SameNames (held_cells old) new old × SameTexts new old
