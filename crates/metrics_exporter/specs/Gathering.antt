-- Series by reference, each with its cell.
use Rattle.std.specs.Prelude.{◌≡◌, ◌↔◌, ◌++◌, ℕ, ℤ, List, map, Some, Contains}
use Rattle.std.specs.List.{IsDistinct, flat_map}
use Rattle.std.specs.Map.{keys_of}
use Rattle.metrics_names.specs.declared.kind.MetricKind.{MetricKind}
use Rattle.metrics_names.specs.declared.kind.MetricKind.TheVariants.{Counter, Gauge, Histogram}
use Rattle.metrics_names.specs.Names.{KeyParts, SeriesKey, series_key_eq}
use Rattle.metrics_registry.specs.declared.generation.Counted.{Counted}
use Rattle.metrics_registry.specs.declared.kinds.Kinds.{Kinds}
use Rattle.metrics_storage.specs.Histogram.{Distribution}
use Rattle.metrics_exporter.specs.declared.cells.CountedCells.{CountedCells}
use Rattle.metrics_exporter.specs.declared.series.CellRef.{CellRef}
use Rattle.metrics_exporter.specs.declared.series.CellRef.TheVariants as shown
use Rattle.metrics_exporter.specs.declared.series.SeriesRef.{SeriesRef}
use Rattle.metrics_exporter.specs.Exporting.{Reading, count, level, samples, Cell, Cells, AreSeries, IsHeld}

abbrev pub series_at : MetricKind → KeyParts → SeriesKey
series_at kind key = record { kind = kind; key = key }

abbrev pub cell_in : {C : Type 0} → (C → Reading) → Counted C → Cell
cell_in read c = record { reading = read c.inner; generation = c.generation }

-- the series that a reference shows
abbrev pub series_shown : SeriesRef → SeriesKey
series_shown s = series_at s.kind s.key.now

abbrev pub cell_shown : CellRef → Cell
cell_shown (shown.Counter c) = cell_in count c.now
cell_shown (shown.Gauge c) = cell_in level c.now
cell_shown (shown.Histogram c) = cell_in samples c.now

-- the series that references show
abbrev pub all_shown : List SeriesRef → List SeriesKey
all_shown rows = map series_shown rows

-- a series and its cell
abbrev pub Seen : Type 0
Seen = SeriesKey × Cell

abbrev pub seen_by : SeriesRef → Seen
seen_by s = (series_shown s, cell_shown s.cell)

abbrev pub all_seen : List SeriesRef → List Seen
all_seen rows = map seen_by rows

-- the series of one kind's entries
abbrev pub series_in : {C : Type 0} → MetricKind → List (KeyParts × C) → List SeriesKey
series_in kind es = map (λ e. series_at kind e.0) es

-- the same with their cells
abbrev pub seen_in : {C : Type 0} → MetricKind → (C → Reading) → List (KeyParts × Counted C) → List Seen
seen_in kind read es = map (λ e. (series_at kind e.0, cell_in read e.1)) es

-- the series of shards, in the order of a walk over them, each with its cell
abbrev pub Shard : Type 0
Shard = Kinds KeyParts CountedCells (Counted ℕ) (Counted ℤ) (Counted Distribution)

abbrev pub shard_seen : Shard → List Seen
shard_seen s = seen_in Counter count s.counters ++ seen_in Gauge level s.gauges ++ seen_in Histogram samples s.histograms

abbrev pub walk_of : List Shard → List Seen
walk_of shards = flat_map shard_seen shards

-- each held series once, in some order, with its cell
pub record IsWalk (cells : Cells) (seen : List Seen) : Type 0 where
  pub once : IsDistinct series_key_eq (keys_of seen)
  pub held : (s : SeriesKey) → Contains (keys_of seen) s ↔ IsHeld cells s
  pub own : (x : Seen) → Contains seen x → cells x.0 ≡ Some x.1

-- the same by reference
pub record AreGathered (cells : Cells) (rows : List SeriesRef) : Type 0 where
  pub once : IsDistinct series_key_eq (all_shown rows)
  pub held : (s : SeriesKey) → Contains (all_shown rows) s ↔ IsHeld cells s
  pub own : (r : SeriesRef) → Contains rows r → cells (series_shown r) ≡ Some (cell_shown r.cell)

-- the same in composite key order
pub record AreSeen (cells : Cells) (rows : List SeriesRef) : Type 0 where
  pub series : AreSeries cells (all_shown rows)
  pub once : IsDistinct series_key_eq (all_shown rows)
  pub own : (r : SeriesRef) → Contains rows r → cells (series_shown r) ≡ Some (cell_shown r.cell)
