-- The lines of series that come again.
use Rattle.std.specs.Prelude.{if◌then◌else◌, ℕ, List, [], ◌∷◌, ◌++◌}
use Rattle.std.specs.List.{list_any}
use Rattle.metrics_prometheus.specs.Repeated.{repeated_line}
use Rattle.metrics_collector.specs.declared.gathered.GatheredSeries.{GatheredSeries}
use Rattle.metrics_collector.specs.Gathering.{keyed_gathered}
use Rattle.metrics_collector.specs.Merging.{are_same}

-- a row has a line if its series is one of those before it
abbrev pub line_after : List GatheredSeries → GatheredSeries → List ℕ
line_after before row = if list_any (are_same row) before then repeated_line (keyed_gathered row).0 else []

-- the lines of rows after those before them
abbrev pub repeated_lines : List GatheredSeries → List GatheredSeries → List ℕ
repeated_lines before [] = []
repeated_lines before (row ∷ rows) = line_after before row ++ repeated_lines (before ++ row ∷ []) rows
