-- One update of what an exporter keeps, and the checks of one expiry.
use Rattle.std.specs.Prelude.{if◌then◌else◌, ◌≡◌, ℕ, ◌+◌, ◌-◌, nat_lt, true, false, ◌%◌, ◌^◌, ℤ, pos, Bool, not, ◌&&◌, List, [], ◌∷◌, Option, None, Some, Result, Ok, Err, is_some}
use Rattle.std.specs.List.{filter, AllByRecursion, IsDistinct}
use Rattle.std.specs.Set.{is_member}
use Rattle.std.specs.Map.{keys_of}
use Rattle.metrics_names.specs.declared.kind.MetricKind.{MetricKind}
use Rattle.metrics_names.specs.declared.kind.MetricKind.TheVariants.{Counter, Gauge, Histogram}
use Rattle.metrics_names.specs.Names.{KeyParts, SeriesKey, key_eq, series_key_eq}
use Rattle.metrics.specs.declared.handles.Update.{Update}
use Rattle.metrics.specs.declared.handles.Update.TheVariants.{Increment, Absolute, Add, Subtract, Set, Record}
use Rattle.metrics.specs.declared.error.Error.{Error}
use Rattle.metrics.specs.declared.error.Error.TheVariants.{Memory, CountFull}
use Rattle.metrics.specs.Cells.{count_with, level_with}
use Rattle.metrics_storage.specs.Histogram.{Distribution, with_samples}
use Rattle.metrics_registry.specs.declared.generation.Counted.{Counted}
use Rattle.metrics_registry.specs.Held.{held, Sets}
use Rattle.metrics_registry.specs.declared.recency.Noted.{Noted}
use Rattle.metrics_registry.specs.Recency.{Rules, Check, Table, check_step, table_answer, glance, rechecked}
use Rattle.metrics_registry.specs.RecencyEntries.{check_of, rules_of, table_of}
use Rattle.metrics_registry.specs.declared.recency.OwnedRecency.{OwnedRecency}
use Rattle.metrics_exporter.specs.declared.expiring.Found.{Found}
use Rattle.metrics_exporter.specs.Exporting.{Reading, count, level, samples, Cell, Cells, check_of_held}
use Rattle.metrics_exporter.specs.Gathering.{series_at, Seen, all_seen}

-- ---- an update

-- samples after an update; one of another kind changes nothing
abbrev pub samples_with : Update → Distribution → Distribution
samples_with (Record n) d = with_samples (n ∷ []) d
samples_with (Increment n) d = d
samples_with (Absolute n) d = d
samples_with (Add n) d = d
samples_with (Subtract n) d = d
samples_with (Set n) d = d

abbrev pub reading_with : Update → Reading → Reading
reading_with u (count n) = count (count_with u n)
reading_with u (level n) = level (level_with u n)
reading_with u (samples d) = samples (samples_with u d)

abbrev pub cell_with : Update → Cell → Cell
cell_with u c = record { reading = reading_with u c.reading; generation = (c.generation + 1) % 2 ^ 64 }

abbrev pub new_reading : Distribution → MetricKind → Reading
new_reading empty Counter = count 0
new_reading empty Gauge = level (pos 0)
new_reading empty Histogram = samples empty

abbrev pub new_cell : Distribution → MetricKind → Cell
new_cell empty kind = record { reading = new_reading empty kind; generation = 0 }

-- the value that is there, or else a new one
abbrev pub or_new : {A : Type 0} → A → Option A → A
or_new fresh None = fresh
or_new fresh (Some a) = a

-- an update makes the cell of its series if there is none, and changes that one cell
abbrev pub UpdatesCells : Distribution → SeriesKey → Update → Cells → Cells → Type 0
UpdatesCells empty s u old new = (t : SeriesKey) → new t ≡ (if series_key_eq s t then Some (cell_with u (or_new (new_cell empty s.kind) (old s))) else old t)

-- ---- an update of one kind

-- f changed the value of a cell, and its generation is one more
abbrev pub counted_with : {T : Type 0} → (T → T) → Counted T → Counted T
counted_with f c = record { inner = f c.inner; generation = (c.generation + 1) % 2 ^ 64 }

abbrev pub new_counted : {T : Type 0} → T → Counted T
new_counted x = record { inner = x; generation = 0 }

-- f changed the value of the cell of a key, or of a new one
abbrev pub UpdatesEntry : {T : Type 0} → (T → T) → T → KeyParts → List (KeyParts × Counted T) → List (KeyParts × Counted T) → Type 0
UpdatesEntry f fresh key old new = Sets key_eq key (Some (counted_with f (or_new (new_counted fresh) (held key_eq old key)))) old new

-- the count of samples has room for one more
abbrev pub has_room : Option (Counted Distribution) → Bool
has_room None = true
has_room (Some c) = nat_lt c.inner.count (2 ^ 64 - 1)

-- a cell records a sample, or fails as full if its count has no room for one more
abbrev pub TakesSample : ℤ → Counted Distribution → Result (Unit {0}) Error → Counted Distribution → Type 0
TakesSample sample old (Ok done) new = (new ≡ counted_with (with_samples (sample ∷ [])) old) × (has_room (Some old) ≡ true)
TakesSample sample old (Err e) new = (new ≡ old) × (e ≡ CountFull) × (has_room (Some old) ≡ false)

abbrev pub reading_has_room : Reading → Bool
reading_has_room (count n) = true
reading_has_room (level n) = true
reading_has_room (samples d) = nat_lt d.count (2 ^ 64 - 1)

abbrev pub cell_has_room : Option Cell → Bool
cell_has_room None = true
cell_has_room (Some c) = reading_has_room c.reading

-- an update fails as full exactly if a sample finds no room, and else only when out of memory
abbrev pub TakesUpdate : Option Cell → Type 0
TakesUpdate cell = cell_has_room cell ≡ true

abbrev pub RefusesUpdate : Option Cell → Error → Type 0
RefusesUpdate cell e = e ≡ (if cell_has_room cell then Memory else CountFull)

-- ---- checks

-- whether a series is one of these
abbrev pub is_among : List SeriesKey → SeriesKey → Bool
is_among gone s = is_member series_key_eq gone s

abbrev pub check_seen : ℕ → Seen → Check KeyParts
check_seen now x = check_of x.0.kind x.0.key x.1.generation now true

-- the check of a series finds it idle
abbrev pub is_idle : Rules → ℕ → Table KeyParts → Seen → Bool
is_idle rules now table x = not (table_answer rules (check_seen now x) table)

-- it adds a note
abbrev pub is_new : Rules → ℕ → Table KeyParts → Seen → Bool
is_new rules now table x = not (is_some (glance rules (check_seen now x) (table x.0.kind x.0.key)))

-- none of these is noted
abbrev pub AreUnnoted : Table KeyParts → List Seen → Type 0
AreUnnoted table walk = AllByRecursion (λ x. table x.0.kind x.0.key ≡ None) walk

-- the idle series of a walk were found, and those that are new
abbrev pub AreFound : Rules → ℕ → Table KeyParts → List Seen → Found → Type 0
AreFound rules now table walk found =
    (found.idle.items ≡ keys_of (filter (is_idle rules now table) walk)) × (all_seen found.unnoted.items ≡ filter (is_new rules now table) walk)

-- what a check makes of the note of its series
abbrev pub Change : Type 0
Change = Check KeyParts → Option Noted → Option Noted

abbrev pub table_with : Change → ℕ → Seen → Table KeyParts → Table KeyParts
table_with change now x table kind key = if series_key_eq x.0 (series_at kind key) then change (check_seen now x) (table x.0.kind x.0.key) else table kind key

-- the same of one series after another
abbrev pub table_with_all : Change → ℕ → List Seen → Table KeyParts → Table KeyParts
table_with_all change now [] table = table
table_with_all change now (x ∷ walk) table = table_with_all change now walk (table_with change now x table)

-- each series of a walk was checked, unless that adds a note
abbrev pub Rechecks : ℕ → List Seen → OwnedRecency KeyParts → OwnedRecency KeyParts → Type 0
Rechecks now walk old new = (rules_of new ≡ rules_of old) × (table_of key_eq new ≡ table_with_all (rechecked (rules_of old)) now walk (table_of key_eq old))

-- the note after a check that removes none
abbrev pub noted_if_kept : Rules → Change
noted_if_kept rules c note = if (check_step rules c note).0 then (check_step rules c note).1 else note

-- each held series was checked, in whatever order: these are idle, and the notes are as after all checks
pub record AreChecked (rules : Rules) (now : ℕ) (cells : Cells) (old new : Table KeyParts) (idle : List SeriesKey) : Type 0 where
  pub once : IsDistinct series_key_eq idle
  pub found : (s : SeriesKey) → is_among idle s ≡ (is_some (cells s) && not (table_answer rules (check_of_held cells now s) old))
  pub notes : (s : SeriesKey) → new s.kind s.key ≡ (if is_some (cells s) then (check_step rules (check_of_held cells now s) (old s.kind s.key)).1 else old s.kind s.key)

-- ---- without some series

abbrev pub cells_without : List SeriesKey → Cells → Cells
cells_without gone cells s = if is_among gone s then None else cells s

abbrev pub notes_without : List SeriesKey → Table KeyParts → Table KeyParts
notes_without gone table kind key = if is_among gone (series_at kind key) then None else table kind key
