-- The series of a book, and which of them were active.
use Rattle.std.specs.Prelude.{Bool, List, map}
use Rattle.metrics.specs.Book.{Series}
use Rattle.metrics_debugging.specs.declared.debugging.series.SeriesList.{SeriesList}
use Rattle.metrics_debugging.specs.DebuggingSeries.{all_series, is_active}

abbrev pub series_of : SeriesList → List Series
series_of l = all_series l.numbers l.series.items

-- for each series whether it was registered or updated since the last successful snapshot
abbrev pub activity_of : SeriesList → List Bool
activity_of l = map is_active l.series.items
