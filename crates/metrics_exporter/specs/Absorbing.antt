-- Absorbing a snapshot: the updates that its rows mean for an exporter.
use Rattle.std.specs.Prelude.{if◌then◌else◌, ◌≡◌, ◌↔◌, ℕ, zero, suc, ◌+◌, Bool, true, not, ◌&&◌, List, [], ◌∷◌, ◌++◌, map, length, drop, None, IsSome, ◌⊎◌, Result, Ok, Err, nat_eq}
use Rattle.metrics_names.specs.Names.{KeyParts}
use Rattle.metrics.specs.declared.error.Error.{Error}
use Rattle.metrics.specs.declared.error.Error.TheVariants.{Memory, CountFull}
use Rattle.metrics.specs.declared.handles.Update.{Update}
use Rattle.metrics.specs.declared.handles.Update.TheVariants.{Increment, Set, Record}
use Rattle.metrics.specs.declared.debugging.DebugValue.{DebugValue}
use Rattle.metrics.specs.declared.debugging.DebugValue.TheVariants as value
use Rattle.metrics.specs.Book.{RowParts}
use Rattle.metrics_exporter.specs.declared.absorb.PartlyAbsorbed.{PartlyAbsorbed}
use Rattle.metrics_exporter.specs.declared.exporter.Exporter.{Exporter}
use Rattle.metrics_exporter.specs.Exporting.{Setup, Log, updates, steps, series_of, cells_after, IsFull}
use Rattle.metrics_exporter.specs.Kept.{IsAfter}

-- ---- the updates of a row

-- a row of a snapshot, and whether its series was active: registered or updated since the last successful snapshot of its book
pub record MarkedRow : Type 0 where
  pub row : RowParts
  pub active : Bool

-- rows with their marks; rows past the last mark are active
abbrev pub marked : List RowParts → List Bool → List MarkedRow
marked [] marks = []
marked (row ∷ rows) [] = record { row = row; active = true } ∷ marked rows []
marked (row ∷ rows) (active ∷ marks) = record { row = row; active = active } ∷ marked rows marks

-- a count means an increment, and 0 of an idle series none; an active gauge's value means a set, and an idle one's none; each
-- sample means a record
abbrev pub updates_of : Bool → DebugValue → List Update
updates_of active (value.Counter n) = if nat_eq n 0 && not active then [] else Increment n ∷ []
updates_of active (value.Gauge n) = if active then Set n ∷ [] else []
updates_of active (value.Histogram xs) = map Record xs

-- these updates of a key, each answered Ok
abbrev pub made : KeyParts → List Update → Log
made key us = map (λ u. updates key u (Ok tt)) us

-- the updates of a row
abbrev pub asked_by : MarkedRow → List Update
asked_by m = updates_of m.active m.row.3

-- a list of calls with a row absorbed after it
abbrev pub with_row : Log → MarkedRow → Log
with_row log m = log ++ made m.row.0.key (asked_by m)

-- a list of calls with rows absorbed after it, one after another
abbrev pub with_rows : Log → List MarkedRow → Log
with_rows log [] = log
with_rows log (m ∷ rows) = with_rows (with_row log m) rows

-- ---- where it stops

-- why an update after these calls fails: out of memory only if the series isn't held, and with a full count exactly if it is
-- full
pub record Refuses (setup : Setup) (log : Log) (key : KeyParts) (u : Update) (e : Error) : Type 0 where
  pub either : (e ≡ Memory) ⊎ (e ≡ CountFull)
  pub absent : e ≡ Memory → cells_after setup (steps log) (series_of key u) ≡ None
  pub full : (e ≡ CountFull) ↔ IsFull (steps log) key u

-- the first n of a key's updates were made, and the next one failed
pub record StopsIn (setup : Setup) (log : Log) (key : KeyParts) (us : List Update) (e : Error) (n : ℕ) (after : Exporter) : Type 0 where
  pub first : List Update
  pub next : Update
  pub rest : List Update
  pub updates : us ≡ first ++ next ∷ rest
  pub number : n ≡ length first
  pub stands : IsAfter setup (log ++ made key first) after
  pub refused : Refuses setup (log ++ made key first) key next e

-- all updates of a key were made, or those before one that failed
abbrev pub MakesUpdates : Setup → Log → KeyParts → List Update → Result (Unit {0}) (Error × ℕ) → Exporter → Type 0
MakesUpdates setup log key us (Ok done) after = IsAfter setup (log ++ made key us) after
MakesUpdates setup log key us (Err (e, n)) after = StopsIn setup log key us e n after

-- a row's description ran out of memory, before its updates
pub record IsUndescribed (setup : Setup) (log : Log) (row : RowParts) (e : Error) (n : ℕ) (after : Exporter) : Type 0 where
  pub text : IsSome row.2
  pub memory : e ≡ Memory
  pub none : n ≡ 0
  pub stands : IsAfter setup log after

-- the next one of a row's updates failed, or its description
abbrev pub StopsInRow : Setup → Log → MarkedRow → Error → ℕ → Exporter → Type 0
StopsInRow setup log m e n after = StopsIn setup log m.row.0.key (asked_by m) e n after ⊎ IsUndescribed setup log m.row e n after

-- all updates of a row were made, or it stopped in it
abbrev pub AbsorbsRow : Setup → Log → MarkedRow → Result (Unit {0}) (Error × ℕ) → Exporter → Type 0
AbsorbsRow setup log m (Ok done) after = IsAfter setup (with_row log m) after
AbsorbsRow setup log m (Err (e, n)) after = StopsInRow setup log m e n after

-- the first rows were absorbed, and of the next one the updates before one that failed, or none if its description did
pub record StopsAt (setup : Setup) (log : Log) (rows : List MarkedRow) (stop : PartlyAbsorbed) (after : Exporter) : Type 0 where
  pub first : List MarkedRow
  pub next : MarkedRow
  pub rest : List MarkedRow
  pub all : rows ≡ first ++ next ∷ rest
  pub number : stop.rows ≡ length first
  pub within : StopsInRow setup (with_rows log first) next stop.error stop.samples after

-- all rows were absorbed, or the first n of them
abbrev pub Absorbs : Setup → Log → List MarkedRow → Result (Unit {0}) PartlyAbsorbed → Exporter → Type 0
Absorbs setup log rows (Ok done) after = IsAfter setup (with_rows log rows) after
Absorbs setup log rows (Err stop) after = StopsAt setup log rows stop after

-- ---- going on

-- a value without its first n samples
abbrev pub remaining_samples : ℕ → DebugValue → DebugValue
remaining_samples n (value.Counter c) = value.Counter c
remaining_samples n (value.Gauge g) = value.Gauge g
remaining_samples n (value.Histogram xs) = value.Histogram (drop n xs)

-- a row without its first n samples
abbrev pub remaining_row : ℕ → MarkedRow → MarkedRow
remaining_row n m = record { row = (m.row.0, m.row.1, m.row.2, remaining_samples n m.row.3); active = m.active }

abbrev pub first_remaining : ℕ → List MarkedRow → List MarkedRow
first_remaining n [] = []
first_remaining n (m ∷ rows) = remaining_row n m ∷ rows

-- what is left of the rows after a part that was absorbed
abbrev pub remaining : PartlyAbsorbed → List MarkedRow → List MarkedRow
remaining part rows = first_remaining part.samples (drop part.rows rows)

-- the samples of the row in which it stops that were recorded before: n of the first row, and none of another one
abbrev pub samples_before : ℕ → ℕ → ℕ
samples_before zero n = n
samples_before (suc row) n = 0

-- a stop in what was left after a part, counted over all rows
abbrev pub part_of_whole : PartlyAbsorbed → PartlyAbsorbed → PartlyAbsorbed
part_of_whole part stop = record { error = stop.error; rows = part.rows + stop.rows; samples = samples_before stop.rows part.samples + stop.samples }

-- all rows after a part were absorbed, or the first n of them
abbrev pub AbsorbsRemaining : Setup → Log → PartlyAbsorbed → List MarkedRow → Result (Unit {0}) PartlyAbsorbed → Exporter → Type 0
AbsorbsRemaining setup log part rows (Ok done) after = IsAfter setup (with_rows log (remaining part rows)) after
AbsorbsRemaining setup log part rows (Err stop) after = (inner : PartlyAbsorbed) × StopsAt setup log (remaining part rows) inner after × (stop ≡ part_of_whole part inner)
