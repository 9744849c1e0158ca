-- Rows by reference, each with what it shows.
use Rattle.std.specs.Prelude.{if◌then◌else◌, ◌≡◌, ℕ, bytes_eq, List, map, Option, None, Some, option_map}
use Rattle.std.specs.List.{All, AllByRecursion}
use Rattle.std.specs.List.Sorted.{IsSorted}
use Rattle.std.specs.Str.{IsUtf8}
use Rattle.std.specs.Borrow.{Bor}
use Rattle.metrics_names.specs.Names.{label_cmp}
use Rattle.metrics_exporter.specs.Exporting.{Reading, Cells}
use Rattle.metrics_exporter.specs.Gathering.{series_at}
use Rattle.metrics_exporter.specs.Readings.{KeyedReading, reading_shown, AreOnce}
use Rattle.metrics_prometheus.specs.declared.row.ShownRow.{ShownRow}
use Rattle.metrics_prometheus.specs.declared.reasons.Reason.{Reason as ReasonParts}
use Rattle.metrics_prometheus.specs.declared.reasons.Reason.TheVariants.{LabelTwice, LabelReserved, PartOf, NameTaken, LabelsTaken}
use Rattle.metrics_exposition.specs.Naming.{Display}
use Rattle.metrics_prometheus.specs.Exposition.{Row, row_of, row_cmp, reading_at, Reason, label_twice, label_reserved, part, name_taken, labels_taken}

-- the row that a reference shows
abbrev pub row_shown : ShownRow → Row
row_shown r = record { name = r.head.value.name; kind = r.head.value.kind; labels = r.labels; key = r.key.now; help = option_map (λ t. t.now) r.head.value.help; places = r.head.value.places }

abbrev pub rows_shown : List ShownRow → List Row
rows_shown rows = map row_shown rows

-- the row, and what it shows
abbrev pub pair_shown : ShownRow → Row × Reading
pair_shown r = (row_shown r, reading_shown r.reading)

abbrev pub pair_of : Display → KeyedReading → Row × Reading
pair_of display t = (row_of display t.0, t.1)

-- the values of a series' labels are UTF-8
abbrev pub HasTexts : KeyedReading → Type 0
HasTexts t = All (λ l. IsUtf8 l.1) t.0.key.labels

-- a row shows what its series has
abbrev pub Shows : Cells → ShownRow → Type 0
Shows cells r = reading_at cells (row_shown r) ≡ Some (reading_shown r.reading)

-- the series of a row with what it shows
abbrev pub keyed_shown : ShownRow → KeyedReading
keyed_shown r = (series_at r.head.value.kind r.key.now, reading_shown r.reading)

-- rows are those of their series, in order, each once
pub record AreRowsOf (display : Display) (keyed : List KeyedReading) (rows : List ShownRow) : Type 0 where
  pub own : map pair_shown rows ≡ map (pair_of display) (map keyed_shown rows)
  pub once : AreOnce keyed (map keyed_shown rows)
  pub ordered : IsSorted row_cmp (rows_shown rows)
  pub labels : AllByRecursion (λ r. IsSorted label_cmp r.labels) rows

-- why a row is left out, by reference
abbrev pub reason_shown : ReasonParts → Reason
reason_shown LabelTwice = label_twice
reason_shown (LabelReserved n) = label_reserved n.now
reason_shown (PartOf n) = part n.now
reason_shown (NameTaken kind) = name_taken kind
reason_shown (LabelsTaken n) = labels_taken n.now

-- the row that was written last, if it has that name
abbrev pub named : Option Row → List ℕ → Option Row
named None name = None
named (Some w) name = if bytes_eq w.name name then Some w else None

-- names by reference
abbrev pub names_shown : List (Bor (List ℕ)) → List (List ℕ)
names_shown names = map (λ n. n.now) names
