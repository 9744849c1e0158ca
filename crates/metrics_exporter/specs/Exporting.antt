-- What a list of an exporter's calls means: filters over the whole list.
use Rattle.std.specs.Prelude.{if◌then◌else◌, ◌≡◌, ◌↔◌, ℕ, ◌+◌, ◌≤◌, ◌%◌, ◌^◌, ℤ, Bool, true, false, not, ◌&&◌, List, [], ◌∷◌, ◌++◌, map, length, reverse, Option, None, Some, IsSome, Result, Ok, Err, Contains}
use Rattle.std.specs.List.{flat_map, filter_map, list_any, count_by, IsDistinct}
use Rattle.std.specs.List.Sorted.{IsStrictlySortedBy}
use Rattle.metrics_names.specs.declared.common.Unit.{Unit as Measure}
use Rattle.metrics_names.specs.Names.{KeyParts, SeriesKey, key_eq, series_key_eq, series_key_cmp}
use Rattle.metrics.specs.declared.error.Error.{Error}
use Rattle.metrics.specs.declared.error.Error.TheVariants.{Memory}
use Rattle.metrics.specs.declared.handles.Update.{Update}
use Rattle.metrics.specs.declared.handles.Update.TheVariants.{Record}
use Rattle.metrics.specs.declared.debugging.DebugValue.{DebugValue}
use Rattle.metrics.specs.declared.debugging.DebugValue.TheVariants as value
use Rattle.metrics.specs.Book.{kind_of, new_value, value_from}
use Rattle.metrics_storage.specs.Histogram.{Distribution, no_samples, with_samples}
use Rattle.metrics_registry.specs.Recency.{Rules, Check}
use Rattle.metrics_registry.specs.Idleness.{Answered, run_answers}

-- what an exporter was made with: the bounds of a histogram by the unit that it is made in, if any, and by its name; and when
-- a series is idle
pub record Setup : Type 0 where
  pub bounds : Option Measure → List ℕ → List ℤ
  pub rules : Rules

-- ---- the calls

-- a call that may change the exporter: an update with its unit, if any, and its answer, or an expiry with its moment, its
-- checks in order, each with its result, and its answer
pub data Event : Type 0 where
  updates_in : Option Measure → KeyParts → Update → Result (Unit {0}) Error → Event
  expires : ℕ → List (Answered KeyParts) → Result ℕ Error → Event

-- an update without a unit
abbrev pub updates : KeyParts → Update → Result (Unit {0}) Error → Event
updates key u result = updates_in None key u result

-- the calls in order
abbrev pub Log : Type 0
Log = List Event

-- what a call did: an update that was answered Ok, or a check
pub data Step : Type 0 where
  updated_in : Option Measure → KeyParts → Update → Step
  checked : Answered KeyParts → Step

-- an update without a unit
abbrev pub updated : KeyParts → Update → Step
updated key u = updated_in None key u

abbrev pub steps_of : Event → List Step
steps_of (updates_in unit key u (Ok done)) = updated_in unit key u ∷ []
steps_of (updates_in unit key u (Err e)) = []
steps_of (expires now checks result) = map checked checks

abbrev pub steps : Log → List Step
steps log = flat_map steps_of log

-- ---- a series

-- an update is of the series of its key and of its own kind
abbrev pub series_of : KeyParts → Update → SeriesKey
series_of key u = record { kind = kind_of u; key = key }

abbrev pub series_checked : Answered KeyParts → SeriesKey
series_checked a = record { kind = a.check.kind; key = a.check.key }

-- a check of the series answered false
abbrev pub removes : SeriesKey → Step → Bool
removes s (updated_in unit key u) = false
removes s (checked a) = series_key_eq (series_checked a) s && not a.answer

-- the steps after the last check of the series that answered false
abbrev pub after_removal : SeriesKey → List Step → List Step
after_removal s [] = []
after_removal s (x ∷ xs) = if list_any (removes s) xs then after_removal s xs else if removes s x then xs else x ∷ xs

-- an update with its unit, if any
abbrev pub UpdateIn : Type 0
UpdateIn = Option Measure × Update

abbrev pub update_of : SeriesKey → Step → Option UpdateIn
update_of s (updated_in unit key u) = if series_key_eq (series_of key u) s then Some (unit, u) else None
update_of s (checked a) = None

-- the updates of a series that were answered Ok after its last check with result false, each with its unit
abbrev pub since_in : List Step → SeriesKey → List UpdateIn
since_in xs s = filter_map (update_of s) (after_removal s xs)

abbrev pub updates_alone : List UpdateIn → List Update
updates_alone us = map (λ u. u.1) us

-- the same without units
abbrev pub since : List Step → SeriesKey → List Update
since xs s = updates_alone (since_in xs s)

abbrev pub first_unit : List UpdateIn → Option Measure
first_unit [] = None
first_unit (u ∷ us) = u.0

-- the unit of the first of them
abbrev pub unit_since : List Step → SeriesKey → Option Measure
unit_since xs s = first_unit (since_in xs s)

-- ---- its value and generation

-- a count, a gauge's value, or samples counted at bounds
pub data Reading : Type 0 where
  count : ℕ → Reading
  level : ℤ → Reading
  samples : Distribution → Reading

-- samples are counted at the bounds
abbrev pub reading : List ℤ → DebugValue → Reading
reading bounds (value.Counter n) = count n
reading bounds (value.Gauge n) = level n
reading bounds (value.Histogram xs) = samples (with_samples xs (no_samples bounds))

-- what is kept of a series
pub record Cell : Type 0 where
  pub reading : Reading
  pub generation : ℕ

-- a series is held if it has updates; they determine its value, and their number modulo 2^64 is its generation
abbrev pub cell_of : List ℤ → SeriesKey → List Update → Option Cell
cell_of bounds s [] = None
cell_of bounds s (u ∷ us) = Some (record { reading = reading bounds (value_from (new_value s.kind) (u ∷ us)); generation = length (u ∷ us) % 2 ^ 64 })

-- the series that are held, each with what is kept of it
abbrev pub Cells : Type 0
Cells = SeriesKey → Option Cell

-- samples are counted at the bounds of the unit of the first update, which made the cell
abbrev pub cells_after : Setup → List Step → Cells
cells_after setup xs s = cell_of (setup.bounds (unit_since xs s) s.key.name) s (since xs s)

-- a sample that comes to a series would make its count pass 2^64 - 1
abbrev pub IsFull : List Step → KeyParts → Update → Type 0
IsFull xs key (Record n) = 2 ^ 64 ≤ length (since xs (series_of key (Record n))) + 1
IsFull xs key u = ⊥

-- a series is held
abbrev pub IsHeld : Cells → SeriesKey → Type 0
IsHeld cells s = IsSome (cells s)

-- the number of the series that are held: the length of a list that has each of them once
pub record IsHeldNumber (cells : Cells) (n : ℕ) : Type 0 where
  pub keys : List SeriesKey
  pub once : IsDistinct series_key_eq keys
  pub held : (s : SeriesKey) → Contains keys s ↔ IsHeld cells s
  pub number : n ≡ length keys

-- some series is held
abbrev pub HoldsSome : Cells → Type 0
HoldsSome cells = (s : SeriesKey) × IsHeld cells s

-- the held series in composite key order, each of them once
pub record AreSeries (cells : Cells) (keys : List SeriesKey) : Type 0 where
  pub ascending : IsStrictlySortedBy series_key_cmp keys
  pub held : (s : SeriesKey) → Contains keys s ↔ IsHeld cells s

-- the first of the held series, and those after it
abbrev pub HaveFirst : Cells → Type 0
HaveFirst cells = (first : SeriesKey) × (rest : List SeriesKey) × AreSeries cells (first ∷ rest)

-- ---- an expiry

abbrev pub check_in : Step → Option (Answered KeyParts)
check_in (updated_in unit key u) = None
check_in (checked a) = Some a

-- the checks of all expiries, in order
abbrev pub checks_in : List Step → List (Answered KeyParts)
checks_in xs = filter_map check_in xs

abbrev pub generation_in : Option Cell → ℕ
generation_in None = 0
generation_in (Some c) = c.generation

-- the check of a series that is held
abbrev pub check_of_held : Cells → ℕ → SeriesKey → Check KeyParts
check_of_held cells now s = record { kind = s.kind; key = s.key; generation = generation_in (cells s); moment = now; held = true }

abbrev pub checks_of : List (Answered KeyParts) → List (Check KeyParts)
checks_of answered = map (λ a. a.check) answered

abbrev pub answers_of : List (Answered KeyParts) → List Bool
answers_of answered = map (λ a. a.answer) answered

-- how many series an expiry removed
abbrev pub removed_by : List (Answered KeyParts) → ℕ
removed_by answered = count_by (λ a. not a.answer) answered

-- the held series were checked in composite key order, each with its generation
abbrev pub ChecksAll : Cells → ℕ → List (Answered KeyParts) → Type 0
ChecksAll cells now answered = (keys : List SeriesKey) × AreSeries cells keys × (checks_of answered ≡ map (check_of_held cells now) keys)

-- the first n of these checks were made, or none, and at least the next one was not
abbrev pub ChecksFront : Cells → ℕ → List (Answered KeyParts) → Type 0
ChecksFront cells now answered =
    (keys : List SeriesKey) × (next : Check KeyParts) × (rest : List (Check KeyParts)) × AreSeries cells keys × (checks_of answered ++ next ∷ rest ≡ map (check_of_held cells now) keys)

-- all checks were made, and n of them removed their series; or the first ones were made before memory ran out
abbrev pub IsExpiryAnswer : Cells → ℕ → List (Answered KeyParts) → Result ℕ Error → Type 0
IsExpiryAnswer cells now answered (Ok n) = ChecksAll cells now answered × (n ≡ removed_by answered)
IsExpiryAnswer cells now answered (Err e) = ChecksFront cells now answered × (e ≡ Memory)

-- an expiry checks the series that are held, and by all checks before them the results are those of the definition of
-- idleness
pub record IsExpiry (setup : Setup) (before : List Step) (now : ℕ) (answered : List (Answered KeyParts)) (result : Result ℕ Error) : Type 0 where
  pub answers : answers_of answered ≡ run_answers key_eq setup.rules (reverse (checks_in before)) (checks_of answered)
  pub ended : IsExpiryAnswer (cells_after setup before) now answered result
