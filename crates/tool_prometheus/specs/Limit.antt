-- How many series may be held.
use Rattle.std.specs.Prelude.{◌≡◌, ◌≢◌, ℕ, ◌<◌, ◌≤◌, ◌⊎◌, Option, None, Some}
use Rattle.metrics_names.specs.Names.{SeriesKey}
use Rattle.metrics_exporter.specs.Exporting.{Cells, IsHeldNumber}

-- an update would make one series too many: it isn't held, and so many are
abbrev pub IsBeyond : Option ℕ → Cells → SeriesKey → Type 0
IsBeyond None cells series = ⊥
IsBeyond (Some most) cells series = (cells series ≡ None) × ((held : ℕ) × IsHeldNumber cells held × (most ≤ held))

-- it would not: the series is held, or fewer are
abbrev pub IsWithin : Option ℕ → Cells → SeriesKey → Type 0
IsWithin None cells series = Unit {0}
IsWithin (Some most) cells series = (cells series ≢ None) ⊎ ((held : ℕ) × IsHeldNumber cells held × (held < most))
