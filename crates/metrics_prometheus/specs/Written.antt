-- The samples that a text of rows has.
use Rattle.std.specs.Prelude.{if◌then◌else◌, ◌≡◌, ◌≢◌, ◌⊎◌, ◌+◌, ℕ, Bool, true, false, not, ◌&&◌, bytes_eq, nat_eq, List, [], ◌∷◌, ◌++◌, length, Option, None, Some, is_some, Contains}
use Rattle.std.specs.List.{flat_map, filter_map, AllByRecursion}
use Rattle.std.specs.Cmp.Lexicographic.{pointwise}
use Rattle.metrics_names.specs.declared.kind.MetricKind.TheVariants.{Histogram}
use Rattle.metrics_names.specs.Names.{label_eq}
use Rattle.metrics_exporter.specs.Exporting.{Cells}
use Rattle.metrics_exposition.specs.Samples.{Sample, sample_line, lines}
use Rattle.metrics_exposition.specs.Labels.{are_fit}
use Rattle.metrics_prometheus.specs.Exposition.{Row, is_taken, Reason, reason_of, is_left_out, samples_of, reading_at, help_line, type_line, left_out_words, left_out_line}

-- the rows that are not left out
abbrev pub written : List Row → Option Row → List Row → List Row
written rows last [] = []
written rows last (r ∷ rs) = if is_left_out rows last r then written rows last rs else r ∷ written rows (Some r) rs

-- so many rows are left out
abbrev pub AreLeftOut : List Row → ℕ → Type 0
AreLeftOut rows n = n + length (written rows None rows) ≡ length rows

-- the samples of those that are written, in order
abbrev pub samples_written : Cells → List Row → List Sample
samples_written cells rows = flat_map (λ r. samples_of r (reading_at cells r)) (written rows None rows)

-- two samples have the same name and labels: to Prometheus they are one series
abbrev pub is_same_series : Sample → Sample → Bool
is_same_series a b = bytes_eq a.name b.name && pointwise label_eq a.labels b.labels

-- rows of one name are of one kind, and have other labels
abbrev pub AreApart : Row → Row → Type 0
AreApart a b = a.name ≡ b.name → (a.kind ≡ b.kind) × (a.labels ≡ b.labels → ⊥)

-- one of these rows is a histogram of that name
abbrev pub HasHistogram : List Row → List ℕ → Type 0
HasHistogram rows name = (r : Row) × Contains rows r × (r.kind ≡ Histogram) × (r.name ≡ name)

-- nothing keeps a row from the text: its labels are fit, its name is none of a histogram's samples, and it is apart from each
-- other row that is written
pub record MayStand (rows : List Row) (r : Row) : Type 0 where
  pub fit : are_fit r.kind r.labels ≡ true
  pub free : is_taken rows r.name ≡ false
  pub apart : (w : Row) → Contains (written rows None rows) w → (w ≡ r) ⊎ AreApart w r

-- the reason holds by the row itself and the histograms, or beside a row that is written
pub data IsWhy (rows : List Row) (r : Row) (why : Reason) : Type 0 where
  alone : reason_of rows None r ≡ Some why → IsWhy rows r why
  beside : (w : Row) → Contains (written rows None rows) w → reason_of rows (Some w) r ≡ Some why → IsWhy rows r why

-- a row that may be written has its samples in the text; another one has a line that it is left out, and why
pub data IsReported (cells : Cells) (rows : List Row) (text : List ℕ) (r : Row) : Type 0 where
  shown : MayStand rows r → (before after : List ℕ) → text ≡ before ++ (lines (samples_of r (reading_at cells r)) ++ after) → IsReported cells rows text r
  left_out : (MayStand rows r → ⊥) → (why : Reason) → IsWhy rows r why → (before after : List ℕ) → text ≡ before ++ (left_out_line r why ++ after) → IsReported cells rows text r

-- ---- the lines of a text

-- a line has a sample, or describes a name, or reports the kind of a row's name, or why a row is left out
pub data Line : Type 0 where
  has : Sample → Line
  describes : List ℕ → List ℕ → Line
  tells_kind : Row → Line
  leaves_out : Row → Reason → Line

abbrev pub line_text : Line → List ℕ
line_text (has s) = sample_line s
line_text (describes name text) = help_line name (Some text)
line_text (tells_kind r) = type_line r
line_text (leaves_out r why) = left_out_line r why

abbrev pub sample_in : Line → Option Sample
sample_in (has s) = Some s
sample_in (describes name text) = None
sample_in (tells_kind r) = None
sample_in (leaves_out r why) = None

-- what a line says of a row that is left out
abbrev pub left_out_in : Line → Option (List ℕ)
left_out_in (has s) = None
left_out_in (describes name text) = None
left_out_in (tells_kind r) = None
left_out_in (leaves_out r why) = Some (left_out_words r why)

-- a line feed is at its end, and nowhere else
pub record IsLine (bytes : List ℕ) : Type 0 where
  pub inside : List ℕ
  pub is : bytes ≡ inside ++ 10 ∷ []
  pub none : AllByRecursion (λ c. c ≢ 10) inside

-- a comment begins with `#`
abbrev pub begins_comment : List ℕ → Bool
begins_comment [] = false
begins_comment (c ∷ cs) = nat_eq c 35

-- a line has one line feed, at its end, and is a comment unless it has a sample
pub record IsReadable (l : Line) : Type 0 where
  pub ends : IsLine (line_text l)
  pub comment : begins_comment (line_text l) ≡ not (is_some (sample_in l))

-- a text of lines that can be told apart, with these samples
pub record HasSamples (text : List ℕ) (samples : List Sample) : Type 0 where
  pub all : List Line
  pub text_is : text ≡ flat_map line_text all
  pub readable : AllByRecursion IsReadable all
  pub samples_are : filter_map sample_in all ≡ samples

-- ---- the kinds of names

-- a line reports the kind of that name
abbrev pub is_type_of : List ℕ → Line → Bool
is_type_of name (has s) = false
is_type_of name (describes n text) = false
is_type_of name (tells_kind r) = bytes_eq r.name name
is_type_of name (leaves_out r why) = false

-- one of these lines reports the kind of the row's name, as the row has it, and none of these samples comes before it
pub record TellsKindOnce (all : List Line) (w : Row) (samples : List Sample) : Type 0 where
  pub before : List Line
  pub first : Row
  pub after : List Line
  pub all_are : all ≡ before ++ tells_kind first ∷ after
  pub name : first.name ≡ w.name
  pub kind : first.kind ≡ w.kind
  pub none_before : AllByRecursion (λ l. is_type_of w.name l ≡ false) before
  pub none_after : AllByRecursion (λ l. is_type_of w.name l ≡ false) after
  pub behind : (s : Sample) → Contains samples s → Contains (filter_map sample_in before) s → ⊥

-- a text of lines that can be told apart; they report the kind of each row's name once, before the row's samples
pub record TellsKinds (cells : Cells) (rows : List Row) (text : List ℕ) : Type 0 where
  pub lines : HasSamples text (samples_written cells rows)
  pub once : (w : Row) → Contains (written rows None rows) w → TellsKindOnce lines.all w (samples_of w (reading_at cells w))

-- ---- the descriptions of names

-- a line describes that name
abbrev pub is_help_of : List ℕ → Line → Bool
is_help_of name (has s) = false
is_help_of name (describes n text) = bytes_eq n name
is_help_of name (tells_kind r) = false
is_help_of name (leaves_out r why) = false

-- the first of these rows that has the name
pub record IsFirstNamed (rows : List Row) (n : List ℕ) (first : Row) : Type 0 where
  pub before : List Row
  pub after : List Row
  pub rows_are : rows ≡ before ++ first ∷ after
  pub name : first.name ≡ n
  pub none_before : AllByRecursion (λ r. bytes_eq r.name n ≡ false) before

-- one of these lines describes the name, by this text, and none of these samples comes before it
pub record DescribesOnce (all : List Line) (name text : List ℕ) (samples : List Sample) : Type 0 where
  pub before : List Line
  pub after : List Line
  pub all_are : all ≡ before ++ describes name text ∷ after
  pub none_before : AllByRecursion (λ l. is_help_of name l ≡ false) before
  pub none_after : AllByRecursion (λ l. is_help_of name l ≡ false) after
  pub behind : (s : Sample) → Contains samples s → Contains (filter_map sample_in before) s → ⊥

-- so it is if there is a description, and otherwise none of these lines describes the name
abbrev pub DescribesAs : List Line → List ℕ → Option (List ℕ) → List Sample → Type 0
DescribesAs all name None samples = AllByRecursion (λ l. is_help_of name l ≡ false) all
DescribesAs all name (Some text) samples = DescribesOnce all name text samples

-- a text of lines that can be told apart; they describe each row's name as the first row that is written under it is described,
-- once, before the row's samples
pub record DescribesNames (cells : Cells) (rows : List Row) (text : List ℕ) : Type 0 where
  pub lines : HasSamples text (samples_written cells rows)
  pub once : (w : Row) → Contains (written rows None rows) w
      → (first : Row) × IsFirstNamed (written rows None rows) w.name first × DescribesAs lines.all w.name first.help (samples_of w (reading_at cells w))
