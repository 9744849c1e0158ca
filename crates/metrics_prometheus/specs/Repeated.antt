-- The line of a series that comes again.
use Rattle.std.specs.Prelude.{ℕ, List, None}
use Rattle.metrics_names.specs.Names.{SeriesKey}
use Rattle.metrics_prometheus.specs.Exposition.{labels_taken, left_out_line}
use Rattle.metrics_exposition.specs.Labels.{shown_labels}

-- it is left out, since its own name and labels are taken
abbrev pub repeated_line : SeriesKey → List ℕ
repeated_line s = left_out_line (record { name = s.key.name; kind = s.kind; labels = shown_labels s.key.labels; key = s.key; help = None; places = 0 }) (labels_taken s.key.name)
