-- The rows of a snapshot by their keys.
use Rattle.std.specs.Prelude.{if◌then◌else◌, ℕ, List, [], ◌∷◌, Option, None, Some}
use Rattle.std.specs.List.{filter_map}
use Rattle.metrics_names.specs.declared.common.Unit.{Unit as Measure}
use Rattle.metrics.specs.declared.debugging.DebugValue.{DebugValue}
use Rattle.metrics_names.specs.Names.{SeriesKey, series_key_eq}
use Rattle.metrics.specs.Book.{RowParts}

-- what follows the key of a row
abbrev pub RowRest : Type 0
RowRest = Option Measure × Option (List ℕ) × DebugValue

abbrev pub row_at : SeriesKey → RowParts → Option RowRest
row_at k r = if series_key_eq r.0 k then Some (r.1, r.2, r.3) else None

-- the last element of a list
abbrev pub last : {A : Type 0} → List A → Option A
last [] = None
last (x ∷ []) = Some x
last (x ∷ y ∷ ys) = last (y ∷ ys)

-- the last row of a key
abbrev pub last_row : SeriesKey → List RowParts → Option RowRest
last_row k rows = last (filter_map (row_at k) rows)
