-- What a cell holds after an update, by the value of updates in a book.
use Rattle.std.specs.Prelude.{◌≡◌, ℕ, ℤ, pos, List, [], ◌∷◌}
use Rattle.metrics.specs.declared.handles.Update.{Update}
use Rattle.metrics.specs.declared.debugging.DebugValue.{DebugValue}
use Rattle.metrics.specs.declared.debugging.DebugValue.TheVariants.{Counter, Gauge, Histogram}
use Rattle.metrics.specs.Book.{updated, value_from}

-- ---- what an update makes of a value

abbrev pub count_in : DebugValue → ℕ
count_in (Counter n) = n
count_in (Gauge n) = 0
count_in (Histogram xs) = 0

abbrev pub level_in : DebugValue → ℤ
level_in (Counter n) = pos 0
level_in (Gauge n) = n
level_in (Histogram xs) = pos 0

-- a count and a gauge's value after an update; one of another kind changes nothing
abbrev pub count_with : Update → ℕ → ℕ
count_with u n = count_in (updated u (Counter n))

abbrev pub level_with : Update → ℤ → ℤ
level_with u n = level_in (updated u (Gauge n))

-- ---- cells

-- a count, after one more update of the counter
abbrev pub IsCountAfter : Update → ℕ → ℕ → Type 0
IsCountAfter u old new = Counter new ≡ value_from (Counter old) (u ∷ [])

-- a gauge's value, after one more update of the gauge
abbrev pub IsGaugeAfter : Update → ℤ → ℤ → Type 0
IsGaugeAfter u old new = Gauge new ≡ value_from (Gauge old) (u ∷ [])

-- a histogram's samples, after one more update of the histogram
abbrev pub AreSamplesAfter : Update → List ℤ → List ℤ → Type 0
AreSamplesAfter u old new = Histogram new ≡ value_from (Histogram old) (u ∷ [])
