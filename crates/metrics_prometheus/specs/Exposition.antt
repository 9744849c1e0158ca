-- Prometheus's text exposition format, version 0.0.4, of the series that are held.
use Rattle.std.specs.Prelude.{if◌then◌else◌, ◌≡◌, ℕ, ◌-◌, Bool, not, ◌&&◌, nat_eq, bytes_eq, List, [], ◌∷◌, ◌++◌, map, length, take, codes, IsPermutation, IsSorted, Option, None, Some, is_some, option_map, Contains, ◌↔◌}
use Rattle.std.specs.Option.{option_or}
use Rattle.std.specs.List.{list_any, ends_with, IsDistinct}
use Rattle.std.specs.Cmp.Lexicographic.{pointwise, slice_cmp}
use Rattle.std.specs.declared.cmp.Ordering.{Ordering}
use Rattle.std.specs.Ordering.{nat_cmp, on, then_cmp}
use Rattle.metrics_names.specs.declared.kind.MetricKind.{MetricKind}
use Rattle.metrics_names.specs.declared.kind.MetricKind.TheVariants.{Histogram}
use Rattle.metrics_names.specs.Names.{KeyParts, LabelParts, SeriesKey, kind_number, kind_eq, label_eq, label_cmp, key_cmp, series_key_eq, kind_word}
use Rattle.metrics_exporter.specs.Exporting.{Reading, count, level, samples, Cells, IsHeld}
use Rattle.metrics_exporter.specs.Gathering.{series_at}
use Rattle.metrics_descriptions.specs.Legends.{Legend, no_legend}
use Rattle.metrics_exposition.specs.declared.naming.Naming.{Naming}
use Rattle.metrics_exposition.specs.declared.naming.Naming.TheVariants.{AsGiven}
use Rattle.metrics_exposition.specs.Naming.{Display, display_by, no_places}
use Rattle.metrics_exposition.specs.Names.{help_escaped}
use Rattle.metrics_exposition.specs.Numbers.{unsigned, number}
use Rattle.metrics_exposition.specs.Labels.{shown_labels, repeats, reserved_of, are_fit, is_last, AreTexts}
use Rattle.metrics_exposition.specs.Samples.{Sample, lines, labels_text, histogram_samples}

-- a series as Prometheus is shown it, next to its own key: with the description of its own name, and the number of decimal
-- places of each number
pub record Row : Type 0 where
  pub name : List ℕ
  pub kind : MetricKind
  pub labels : List LabelParts
  pub key : KeyParts
  pub help : Option (List ℕ)
  pub places : ℕ

abbrev pub row_of : Display → SeriesKey → Row
row_of display s = record {
  name = (display s.kind s.key.name).name;
  kind = s.kind;
  labels = shown_labels s.key.labels;
  key = s.key;
  help = (display s.kind s.key.name).help;
  places = (display s.kind s.key.name).places;
}

-- rows go by name, then by kind, then by labels; the series' own keys decide between equal ones
abbrev pub row_cmp : Row → Row → Ordering
row_cmp = then_cmp (on (λ r. r.name) (slice_cmp nat_cmp)) (then_cmp (on (λ r. kind_number r.kind) nat_cmp) (then_cmp (on (λ r. r.labels) (slice_cmp label_cmp)) (on (λ r. r.key) key_cmp)))

-- ---- what is left out

-- a histogram whose labels are fit
abbrev pub is_fit_histogram : Row → Bool
is_fit_histogram r = kind_eq r.kind Histogram && are_fit r.kind r.labels

-- a counter or a gauge whose labels are fit
abbrev pub is_fit_number : Row → Bool
is_fit_number r = not (kind_eq r.kind Histogram) && are_fit r.kind r.labels

-- a name, if it is one of these
abbrev pub found_in : List (List ℕ) → List ℕ → Option (List ℕ)
found_in names name = if list_any (bytes_eq name) names then Some name else None

-- what comes before the suffix of a name, if the name ends so and that is one of these
abbrev pub part_of : List (List ℕ) → List ℕ → List ℕ → Option (List ℕ)
part_of names name end = if ends_with nat_eq name end then found_in names (take (length name - length end) name) else None

-- the one of these that is the name without the end of a histogram's samples
abbrev pub whole_of : List (List ℕ) → List ℕ → Option (List ℕ)
whole_of names name = option_or (part_of names name (codes "_bucket")) (option_or (part_of names name (codes "_sum")) (part_of names name (codes "_count")))

-- the name of the fit counter or gauge that came last
abbrev pub last_number : Option (List ℕ) → Row → Option (List ℕ)
last_number last r = if is_fit_number r then Some r.name else last

-- a fit histogram uses its name, unless a counter or a gauge has that, or it is a part of one of these
abbrev pub uses_name : List (List ℕ) → Option (List ℕ) → Row → Bool
uses_name names last r = is_fit_histogram r && (not (is_last last r.name) && not (is_some (whole_of names r.name)))

-- these names, and those that the histograms of rows in order use
abbrev pub names_used : List (List ℕ) → Option (List ℕ) → List Row → List (List ℕ)
names_used names last [] = names
names_used names last (r ∷ rs) = names_used (if uses_name names last r then names ++ r.name ∷ [] else names) (last_number last r) rs

-- the names that histograms use, of rows in order: those of the histograms that are written
abbrev pub histogram_names : List Row → List (List ℕ)
histogram_names rows = names_used [] None rows

-- a name is that of a histogram's samples
abbrev pub is_taken : List Row → List ℕ → Bool
is_taken rows name = is_some (whole_of (histogram_names rows) name)

-- ---- why a series is left out

pub data Reason : Type 0 where
  -- two of its labels have one name
  label_twice : Reason
  -- Prometheus keeps this name of a label for itself
  label_reserved : List ℕ → Reason
  -- its name is that of a part of this histogram
  part : List ℕ → Reason
  -- a series of this kind was written under its name
  name_taken : MetricKind → Reason
  -- a series of this own name was written under its name, with its labels
  labels_taken : List ℕ → Reason

abbrev pub labels_reason : MetricKind → List LabelParts → Option Reason
labels_reason kind labels = if repeats labels then Some label_twice else option_map (λ n. label_reserved n) (reserved_of kind labels)

abbrev pub name_reason : List (List ℕ) → List ℕ → Option Reason
name_reason names name = option_map (λ n. part n) (whole_of names name)

-- beside a row of its name that was written
abbrev pub same_name_reason : Row → Row → Option Reason
same_name_reason w r = if kind_eq w.kind r.kind then (if pointwise label_eq w.labels r.labels then Some (labels_taken w.key.name) else None) else Some (name_taken w.kind)

-- beside the row that was written last
abbrev pub last_reason : Option Row → Row → Option Reason
last_reason None r = None
last_reason (Some w) r = if bytes_eq w.name r.name then same_name_reason w r else None

-- the first that holds
abbrev pub reason_of : List Row → Option Row → Row → Option Reason
reason_of rows last r = option_or (labels_reason r.kind r.labels) (option_or (name_reason (histogram_names rows) r.name) (last_reason last r))

abbrev pub is_left_out : List Row → Option Row → Row → Bool
is_left_out rows last r = is_some (reason_of rows last r)

-- ---- the text

-- a description, if there is one
abbrev pub help_line : List ℕ → Option (List ℕ) → List ℕ
help_line name None = []
help_line name (Some text) = codes "# HELP " ++ (name ++ (32 ∷ (help_escaped text ++ 10 ∷ [])))

abbrev pub type_line : Row → List ℕ
type_line r = codes "# TYPE " ++ (r.name ++ (32 ∷ (kind_word r.kind ++ 10 ∷ [])))

abbrev pub name_lines : Row → List ℕ
name_lines r = help_line r.name r.help ++ type_line r

-- a name's description and its kind come once, before its first sample
abbrev pub name_text : Option Row → Row → List ℕ
name_text None r = name_lines r
name_text (Some w) r = if bytes_eq w.name r.name then [] else name_lines r

abbrev pub samples_of : Row → Option Reading → List Sample
samples_of r None = []
samples_of r (Some (count n)) = record { name = r.name; labels = r.labels; value = unsigned r.places n } ∷ []
samples_of r (Some (level n)) = record { name = r.name; labels = r.labels; value = number r.places n } ∷ []
samples_of r (Some (samples d)) = histogram_samples r.places r.name r.labels d

abbrev pub reading_at : Cells → Row → Option Reading
reading_at cells r = option_map (λ c. c.reading) (cells (series_at r.kind r.key))

-- names are in it as they are in a description
abbrev pub reason_text : Reason → List ℕ
reason_text label_twice = codes "two labels of one name"
reason_text (label_reserved n) = codes "label " ++ help_escaped n
reason_text (part n) = codes "name of a part of histogram " ++ help_escaped n
reason_text (name_taken kind) = codes "name taken by a " ++ kind_word kind
reason_text (labels_taken n) = codes "labels equal those of " ++ help_escaped n

-- KIND NAME{LABELS}, with the series' own name
abbrev pub series_named : Row → List ℕ
series_named r = kind_word r.kind ++ (32 ∷ (help_escaped r.key.name ++ labels_text r.labels))

-- KIND NAME{LABELS}: REASON
abbrev pub left_out_words : Row → Reason → List ℕ
left_out_words r why = series_named r ++ (codes ": " ++ reason_text why)

-- the same after what marks such a line
abbrev pub left_out_line : Row → Reason → List ℕ
left_out_line r why = codes "# left out: " ++ (left_out_words r why ++ 10 ∷ [])

-- a row with what it shows
abbrev pub row_lines_as : Option Reason → Option Reading → Option Row → Row → List ℕ
row_lines_as None reading last r = name_text last r ++ lines (samples_of r reading)
row_lines_as (Some why) reading last r = left_out_line r why

abbrev pub row_lines : Option Reading → List Row → Option Row → Row → List ℕ
row_lines reading rows last r = row_lines_as (reason_of rows last r) reading last r

abbrev pub row_text : Cells → List Row → Option Row → Row → List ℕ
row_text cells rows last r = row_lines (reading_at cells r) rows last r

-- the row that was written last
abbrev pub last_after : List Row → Option Row → Row → Option Row
last_after rows last r = if is_left_out rows last r then last else Some r

abbrev pub rows_text : Cells → List Row → Option Row → List Row → List ℕ
rows_text cells rows last [] = []
rows_text cells rows last (r ∷ rs) = row_text cells rows last r ++ rows_text cells rows (last_after rows last r) rs

-- the rows of the held series, in order
pub record AreRows (display : Display) (cells : Cells) (rows : List Row) : Type 0 where
  pub keys : List SeriesKey
  pub once : IsDistinct series_key_eq keys
  pub held : (s : SeriesKey) → Contains keys s ↔ IsHeld cells s
  pub same : IsPermutation (map (row_of display) keys) rows
  pub ordered : IsSorted row_cmp rows

-- the values of all held series' labels are UTF-8
abbrev pub HoldsTexts : Cells → Type 0
HoldsTexts cells = (s : SeriesKey) → IsHeld cells s → AreTexts s.key.labels

-- a text has for each held series its samples, after its name's description and kind, or one line that says that it is left
-- out; names and units follow the naming and the descriptions; numbers have the decimal places of their names; label values are
-- UTF-8
pub record IsScaled (naming : Naming) (legend : Legend) (places : List ℕ → ℕ) (cells : Cells) (text : List ℕ) : Type 0 where
  pub rows : List Row
  pub all : AreRows (display_by naming legend places) cells rows
  pub texts : HoldsTexts cells
  pub is : text ≡ rows_text cells rows None rows

-- the same of whole numbers
abbrev pub IsDescribed : Naming → Legend → Cells → List ℕ → Type 0
IsDescribed naming legend cells text = IsScaled naming legend no_places cells text

-- the same with unchanged names and numbers, if no name is described
abbrev pub IsExposition : Cells → List ℕ → Type 0
IsExposition cells text = IsDescribed AsGiven no_legend cells text
