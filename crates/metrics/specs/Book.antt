-- The content of a book, its rows, and one step of each call on it.
use Rattle.std.specs.Prelude.{if◌then◌else◌, ℕ, zero, suc, ◌+◌, ◌%◌, ◌^◌, max, Bool, true, false, ◌&&◌, List, [], ◌∷◌, ◌++◌, map, length, take, drop, reverse, Option, None, Some, option_map, pos, ◌+ℤ◌, ◌-ℤ◌, bytes_eq, get_or, slice_get}
use Rattle.std.specs.Int.{saturate_signed, w64}
use Rattle.std.specs.List.{position_or_len, list_any}
use Rattle.std.specs.Option.{option_or}
use Rattle.metrics_names.specs.declared.kind.MetricKind.{MetricKind}
use Rattle.metrics_names.specs.declared.kind.MetricKind.TheVariants.{Counter, Gauge, Histogram}
use Rattle.metrics_names.specs.declared.common.Unit.{Unit as Measure}
use Rattle.metrics.specs.declared.debugging.DebugValue.{DebugValue}
use Rattle.metrics.specs.declared.debugging.Reset.{Reset}
use Rattle.metrics.specs.declared.debugging.Reset.TheVariants.{All, KeepGauges}
use Rattle.metrics.specs.declared.debugging.DebugValue.TheVariants.{Counter as CounterValue, Gauge as GaugeValue, Histogram as HistogramValue}
use Rattle.metrics.specs.declared.handles.Update.{Update}
use Rattle.metrics.specs.declared.handles.Update.TheVariants.{Increment, Absolute, Add, Subtract, Set, Record}
use Rattle.metrics_names.specs.Names.{SeriesKey, kind_eq, series_key_eq}
use Rattle.metrics.specs.Targets.{change_at}

-- ---- values

-- the value of a new series
abbrev pub new_value : MetricKind → DebugValue
new_value Counter = CounterValue 0
new_value Gauge = GaugeValue (pos 0)
new_value Histogram = HistogramValue []

-- the kind that an update is for
abbrev pub kind_of : Update → MetricKind
kind_of (Increment n) = Counter
kind_of (Absolute n) = Counter
kind_of (Add n) = Gauge
kind_of (Subtract n) = Gauge
kind_of (Set n) = Gauge
kind_of (Record n) = Histogram

-- a value after an update; one of another kind changes nothing
abbrev pub updated : Update → DebugValue → DebugValue
updated (Increment n) (CounterValue v) = CounterValue ((v + n) % (2 ^ 64))
updated (Absolute n) (CounterValue v) = CounterValue (max v n)
updated (Add n) (GaugeValue v) = GaugeValue (saturate_signed w64 (v +ℤ n))
updated (Subtract n) (GaugeValue v) = GaugeValue (saturate_signed w64 (v -ℤ n))
updated (Set n) (GaugeValue v) = GaugeValue n
updated (Record n) (HistogramValue vs) = HistogramValue (vs ++ n ∷ [])
updated u v = v

-- the value of a list of updates
abbrev pub value_from : DebugValue → List Update → DebugValue
value_from v [] = v
value_from v (u ∷ us) = value_from (updated u v) us

-- ---- samples in bucket order

-- the list cut into chunks of 64 from the first item on, at most n of them; the last may be shorter
abbrev pub chunks_within : {A : Type 0} → ℕ → List A → List (List A)
chunks_within n [] = []
chunks_within zero (x ∷ xs) = []
chunks_within (suc n) (x ∷ xs) = take 64 (x ∷ xs) ∷ chunks_within n (drop 64 (x ∷ xs))

abbrev pub chunks : {A : Type 0} → List A → List (List A)
chunks xs = chunks_within (length xs) xs

abbrev pub joined_lists : {A : Type 0} → List (List A) → List A
joined_lists [] = []
joined_lists (xs ∷ rest) = xs ++ joined_lists rest

-- the chunks are reversed and joined
abbrev pub blocks : {A : Type 0} → List A → List A
blocks xs = joined_lists (reverse (chunks xs))

-- ---- contents

-- a series: its composite key and its value
pub record Series : Type 0 where
  pub key : SeriesKey
  pub value : DebugValue

-- the description of a name: a unit and a text, if there are any
pub record Description : Type 0 where
  pub unit : Option Measure
  pub text : Option (List ℕ)

-- a book: its series in order of first registration; for each of them whether it was active, that is registered or updated after the
-- book's last successful snapshot; and the description of each kind and name
pub record Content : Type 0 where
  pub series : List Series
  pub active : List Bool
  pub described : MetricKind → List ℕ → Description

-- neither unit nor text
abbrev pub no_description : Description
no_description = record { unit = None; text = None }

-- the content of a new book
abbrev pub new_book : Content
new_book = record { series = []; active = []; described = λ _ _. no_description }

-- the content of a book by its number
abbrev pub content_at : ℕ → List Content → Content
content_at b cs = get_or cs b new_book

-- whether a series has this key
abbrev pub is_of : SeriesKey → Series → Bool
is_of k s = series_key_eq k s.key

-- the place of a series in its book, or the number of series if it isn't there
abbrev pub place : SeriesKey → Content → ℕ
place k c = position_or_len (is_of k) c.series

-- the kind of the series at a place, if there is one
abbrev pub kind_at : ℕ → Content → Option MetricKind
kind_at s c = option_map (λ x. x.key.kind) (slice_get c.series s)

-- ---- rows

-- a row of a snapshot: composite key, unit, text, value
abbrev pub RowParts : Type 0
RowParts = SeriesKey × Option Measure × Option (List ℕ) × DebugValue

-- a value as a snapshot reports it: samples are in bucket order
abbrev pub snapshot_value : DebugValue → DebugValue
snapshot_value (CounterValue n) = CounterValue n
snapshot_value (GaugeValue n) = GaugeValue n
snapshot_value (HistogramValue xs) = HistogramValue (blocks xs)

abbrev pub row_of : Content → Series → RowParts
row_of c s = let d = c.described s.key.kind s.key.key.name in (s.key, d.unit, d.text, snapshot_value s.value)

-- the rows of a book
abbrev pub rows : Content → List RowParts
rows c = map (row_of c) c.series

-- a snapshot: its rows, and for each, in order, whether its series was active. A book's has as many marks as rows; in another, rows
-- past the last mark are active
pub record SnapshotParts : Type 0 where
  pub rows : List RowParts
  pub active : List Bool

-- what a snapshot of a book has
abbrev pub snapshot_of : Content → SnapshotParts
snapshot_of c = record { rows = rows c; active = c.active }

-- ---- activity

-- a series that is registered is active, also a new one at the end
abbrev pub registered_at : ℕ → List Bool → List Bool
registered_at place marks = take place marks ++ true ∷ drop (suc place) marks

-- a series that is updated is active, and the others are as they were
abbrev pub active_at : ℕ → List Bool → List Bool
active_at place marks = change_at place (λ _. true) marks

-- what a snapshot leaves of a series' activity
abbrev pub idle : Bool → Bool
idle active = false

-- ---- one step of each call

-- a text always replaces the old one, and a unit only if there is a new one
abbrev pub described_again : Option Measure → List ℕ → Description → Description
described_again unit text d = record { unit = option_or unit d.unit; text = Some text }

-- a describe call in a book
abbrev pub describe_in : MetricKind → Option Measure → List ℕ → List ℕ → Content → Content
describe_in kind unit text name c = record c {
  described = λ k n.
      if kind_eq kind k && bytes_eq name n then described_again unit text (c.described k n) else c.described k n;
}

abbrev pub new_series : SeriesKey → Series
new_series k = record { key = k; value = new_value k.kind }

-- a register call in a book: a key is added at the end, if it isn't there, and is active
abbrev pub register_in : SeriesKey → Content → Content
register_in k c = record c {
  series = if list_any (is_of k) c.series then c.series else c.series ++ new_series k ∷ [];
  active = registered_at (place k c) c.active;
}

abbrev pub with_update : Update → Series → Series
with_update u s = record s { value = updated u s.value }

-- an update in a book, of the series at a place, which is active then
abbrev pub update_in : Update → ℕ → Content → Content
update_in u s c = record c { series = change_at s (with_update u) c.series; active = active_at s c.active }

-- whether a snapshot resets the series of a kind: gauges may be kept
abbrev pub resets : Reset → MetricKind → Bool
resets All kind = true
resets KeepGauges Counter = true
resets KeepGauges Gauge = false
resets KeepGauges Histogram = true

abbrev pub after_reset : Reset → Series → Series
after_reset reset s = if resets reset s.key.kind then new_series s.key else s

-- what a snapshot leaves: series, order and descriptions stay, and each series is idle
abbrev pub reset_in : Reset → Content → Content
reset_in reset c = record c { series = map (after_reset reset) c.series; active = map idle c.active }
