-- The series of a book, and their numbers by kind and key.
use Rattle.std.specs.Prelude.{◌≡◌, ◌<◌, ℕ, Bool, List, length, map, position, slice_get, get_or, Some, []}
use Rattle.std.specs.Map.{lookup}
use Rattle.metrics_names.specs.declared.kind.MetricKind.{MetricKind}
use Rattle.metrics_names.specs.Names.{KeyParts, SeriesKey, key_eq, series_key_eq}
use Rattle.metrics.specs.declared.kind.PerKind.{PerKind}
use Rattle.metrics.specs.Book.{Series}
use Rattle.metrics.specs.Kinds.{of_kind}
use Rattle.metrics_debugging.specs.declared.debugging.series.Stored.{Stored}
use Rattle.metrics_debugging.specs.DebuggingCells.{value_of, kind_of_value}

-- of each kind, the keys by their places, each with the number of its series
abbrev pub Numbers : Type 0
Numbers = PerKind (List (KeyParts × ℕ))

abbrev pub series_key : MetricKind → KeyParts → SeriesKey
series_key kind key = record { kind = kind; key = key }

-- the place of a series' key: its kind, and its place there
abbrev pub spot : Stored → MetricKind × ℕ
spot s = (kind_of_value (value_of s.cell), s.place)

-- whether a series was registered or updated since the last successful snapshot
abbrev pub is_active : Stored → Bool
is_active s = s.active

-- a key that no series has
abbrev pub no_key : KeyParts × ℕ
no_key = (record { name = []; labels = [] }, 0)

abbrev pub key_at : Numbers → MetricKind × ℕ → SeriesKey
key_at numbers p = series_key p.0 (get_or (of_kind p.0 numbers) p.1 no_key).0

abbrev pub series_at : Numbers → Stored → Series
series_at numbers s = record { key = key_at numbers (spot s); value = value_of s.cell }

-- the series in their order
abbrev pub all_series : Numbers → List Stored → List Series
all_series numbers stored = map (series_at numbers) stored

-- a key is there
abbrev pub IsWithin : Numbers → MetricKind × ℕ → Type 0
IsWithin numbers p = p.1 < length (of_kind p.0 numbers)

-- each series has a key, and the number at a key is that of the first series of the key
pub record Agrees (numbers : Numbers) (spots : List (MetricKind × ℕ)) : Type 0 where
  pub within : (s : ℕ) (p : MetricKind × ℕ) → slice_get spots s ≡ Some p → IsWithin numbers p
  pub found : (kind : MetricKind) (key : KeyParts) → lookup (key_eq key) (of_kind kind numbers) ≡ position (series_key_eq (series_key kind key)) (map (key_at numbers) spots)
