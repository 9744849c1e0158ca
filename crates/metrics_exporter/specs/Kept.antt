-- What an exporter keeps, and the list of calls that this means.
use Rattle.std.specs.Prelude.{◌≡◌, List, Option, option_map, reverse, ℕ, ℤ}
use Rattle.metrics_names.specs.declared.kind.MetricKind.TheVariants.{Counter, Gauge, Histogram}
use Rattle.metrics_names.specs.declared.kind.MetricKind.{MetricKind}
use Rattle.metrics_names.specs.declared.common.Unit.{Unit as Measure}
use Rattle.metrics_names.specs.Names.{KeyParts, SeriesKey, key_eq}
use Rattle.metrics_storage.specs.Histogram.{Distribution, no_samples}
use Rattle.metrics_registry.specs.declared.generation.Counted.{Counted}
use Rattle.metrics_registry.specs.Held.{held, Registry}
use Rattle.metrics_registry.specs.Recency.{Rules, Check, Table, table_answers}
use Rattle.metrics_registry.specs.RecencyEntries.{rules_of, table_of}
use Rattle.metrics_registry.specs.Idleness.{Answered, run_answers}
use Rattle.metrics_exporter.specs.declared.cells.CountedCells.{CountedCells}
use Rattle.metrics_exporter.specs.declared.exporter.Exporter.{Exporter}
use Rattle.metrics_exporter.specs.Choice.{bounds_in}
use Rattle.metrics_descriptions.specs.Legends.{Legend, described_by}
use Rattle.metrics_exporter.specs.Exporting.{Setup, Log, Step, steps, count, level, samples, Cell, Cells, cells_after, checks_in}
use Rattle.metrics_exporter.specs.Gathering.{cell_in}

-- the cells of the series
abbrev pub SeriesRegistry : Type 0
SeriesRegistry = Registry CountedCells KeyParts (Counted ℕ) (Counted ℤ) (Counted Distribution)

abbrev pub cells_at : SeriesRegistry → MetricKind → KeyParts → Option Cell
cells_at r Counter key = option_map (cell_in count) (held key_eq r.counters key)
cells_at r Gauge key = option_map (cell_in level) (held key_eq r.gauges key)
cells_at r Histogram key = option_map (cell_in samples) (held key_eq r.histograms key)

-- a histogram without samples at the bounds of a unit, if any, and of a name
abbrev pub empty_in : SeriesRegistry → Option Measure → List ℕ → Distribution
empty_in r unit name = no_samples (bounds_in r.storage.bounds unit name)

-- each unit and name has the bounds that the setup says
abbrev pub HasBounds : SeriesRegistry → Setup → Type 0
HasBounds r setup = (unit : Option Measure) (name : List ℕ) → bounds_in r.storage.bounds unit name ≡ setup.bounds unit name

-- the cell of each series
abbrev pub cells_of : SeriesRegistry → Cells
cells_of r s = cells_at r s.kind s.key

-- what an exporter keeps of each series; after a list of calls it is their result (the field `cells` of `Keeps`)
abbrev pub held_cells : Exporter → Cells
held_cells e = cells_of e.registry

-- an exporter's descriptions of names
abbrev pub described : Exporter → Legend
described e = described_by e.descriptions

-- the storage and the number of the shards stay
abbrev pub KeepsSetting : SeriesRegistry → SeriesRegistry → Type 0
KeepsSetting old new = (new.storage ≡ old.storage) × (new.count ≡ old.count)

-- a table decides all checks to come by the definition of idleness, after these checks
abbrev pub AnswersAfter : Rules → Table KeyParts → List (Answered KeyParts) → Type 0
AnswersAfter rules table answered = (checks : List (Check KeyParts)) → table_answers key_eq rules table checks ≡ run_answers key_eq rules (reverse answered) checks

-- an exporter of this setup keeps the result of these steps
pub record Keeps (setup : Setup) (xs : List Step) (e : Exporter) : Type 0 where
  pub bounds : HasBounds e.registry setup
  pub rules : rules_of e.recency ≡ setup.rules
  pub cells : (s : SeriesKey) → cells_of e.registry s ≡ cells_after setup xs s
  pub checks : AnswersAfter setup.rules (table_of key_eq e.recency) (checks_in xs)

-- an exporter of this setup is as after these calls
abbrev pub IsAfter : Setup → Log → Exporter → Type 0
IsAfter setup log e = Keeps setup (steps log) e
