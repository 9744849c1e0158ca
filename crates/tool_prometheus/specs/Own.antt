-- The series about the program itself.
use Rattle.std.specs.Prelude.{if◌then◌else◌, ◌≡◌, ℕ, ◌+◌, ◌-◌, ◌^◌, pos, min, Bool, true, false, List, [], ◌∷◌, ◌++◌, codes, bytes_eq, Option, None, Some}
use Rattle.std.specs.List.{list_any}
use Rattle.metrics_names.specs.Names.{LabelParts, KeyParts, series_key_eq}
use Rattle.metrics_names.specs.declared.kind.MetricKind.TheVariants.{Counter, Gauge}
use Rattle.metrics_exporter.specs.Exporting.{Cells, count, level, IsHeldNumber}
use Rattle.metrics_exporter.specs.Gathering.{series_at}
use Rattle.metrics_exporter.specs.Readings.{KeyedReading}
use Rattle.metrics_descriptions.specs.Legends.{Legend}
use Rattle.metrics_exposition.specs.declared.naming.Naming.{Naming}
use Rattle.metrics_prometheus.specs.Exposition.{IsScaled}
use Rattle.metrics_prometheus.specs.LeftOut.{left_out_number}
use Rattle.tool_prometheus.specs.declared.counts.Counts.{Counts}
use Rattle.tool_requests.specs.Lines.{with_labels}

-- ---- what is counted

-- one more, up to the greatest number
abbrev pub one_more : ℕ → ℕ
one_more n = min (n + 1) (2 ^ 64 - 1)

-- before the first line
abbrev pub nothing_counted : Counts
nothing_counted = record { lines = 0; bad = 0; refused = 0 }

-- and one more line
abbrev pub with_line : Counts → Counts
with_line counts = record counts { lines = one_more counts.lines }

-- and one more line, a bad one that is skipped
abbrev pub with_bad_line : Counts → Counts
with_bad_line counts = record (with_line counts) { bad = one_more counts.bad }

-- and one more call that was refused
abbrev pub with_refusal : Counts → Counts
with_refusal counts = record counts { refused = one_more counts.refused }

-- ---- the series

-- what they are made of: the labels of all series, what was counted, and the moment of the last scrape
pub record Own : Type 0 where
  pub labels : List LabelParts
  pub counts : Counts
  pub last : Option ℕ

-- the labels are those of a line that has none
abbrev pub own_key : List LabelParts → List ℕ → KeyParts
own_key labels name = record { name = name; labels = with_labels labels [] }

abbrev pub own_counter : Own → List ℕ → ℕ → KeyedReading
own_counter own name n = (series_at Counter (own_key own.labels name), count n)

-- a gauge has the greatest number of a gauge at most
abbrev pub own_gauge : Own → List ℕ → ℕ → KeyedReading
own_gauge own name n = (series_at Gauge (own_key own.labels name), level (pos (min n (2 ^ 63 - 1))))

-- before the first scrape there is no moment
abbrev pub own_moment : Own → Option ℕ → List KeyedReading
own_moment own None = []
own_moment own (Some moment) = own_gauge own (codes "metrics_prometheus_tool_scrape_timestamp_seconds") moment ∷ []

-- the series about the program itself, where so many series are held and a text leaves so many out
abbrev pub own_series : Own → ℕ → ℕ → List KeyedReading
own_series own held left_out =
    own_counter own (codes "metrics_prometheus_tool_lines_total") own.counts.lines
    ∷ own_counter own (codes "metrics_prometheus_tool_bad_lines_total") own.counts.bad
    ∷ own_counter own (codes "metrics_prometheus_tool_refused_calls_total") own.counts.refused
    ∷ own_gauge own (codes "metrics_prometheus_tool_series") held
    ∷ own_gauge own (codes "metrics_prometheus_tool_left_out_series") left_out
    ∷ own_moment own own.last

abbrev pub own_names : List (List ℕ)
own_names =
    codes "metrics_prometheus_tool_lines_total"
    ∷ codes "metrics_prometheus_tool_bad_lines_total"
    ∷ codes "metrics_prometheus_tool_refused_calls_total"
    ∷ codes "metrics_prometheus_tool_series"
    ∷ codes "metrics_prometheus_tool_left_out_series"
    ∷ codes "metrics_prometheus_tool_scrape_timestamp_seconds"
    ∷ []

-- their numbers are whole
abbrev pub own_places : (List ℕ → ℕ) → List ℕ → ℕ
own_places places name = if list_any (bytes_eq name) own_names then 0 else places name

-- ---- the text

-- a series has this reading, and each other one what the exporter has
abbrev pub with_series : KeyedReading → Cells → Cells
with_series t cells s = if series_key_eq t.0 s then Some (record { reading = t.1; generation = 0 }) else cells s

-- so it is with each of these
abbrev pub with_own : List KeyedReading → Cells → Cells
with_own [] cells = cells
with_own (t ∷ own) cells = with_own own (with_series t cells)

-- an exposition with the program's own series, of which so many are held, and a text leaves so many out
abbrev pub IsExposedOwn : Own → ℕ → ℕ → Naming → Legend → (List ℕ → ℕ) → Cells → List ℕ → Type 0
IsExposedOwn own held left_out naming legend places cells text =
    IsScaled naming legend (own_places places) (with_own (own_series own held left_out) cells) text

-- What a text shows of cells: an exposition of them; or one with the program's own series, of which one has the number of series
-- that a text leaves out if that number were 0.
abbrev pub IsShown : Bool → Own → Naming → Legend → (List ℕ → ℕ) → Cells → List ℕ → Type 0
IsShown false own naming legend places cells text = IsScaled naming legend places cells text
IsShown true own naming legend places cells text = (held : ℕ) × IsHeldNumber cells held × (first : List ℕ)
    × IsExposedOwn own held 0 naming legend places cells first
    × IsExposedOwn own held (left_out_number first) naming legend places cells text
