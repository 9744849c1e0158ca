-- What a reader of a text needs of its samples.
use Rattle.std.specs.Prelude.{◌≡◌, ◌↔◌, ◌≤◌, ◌<◌, ◌^◌, ◌<ℤ◌, ℕ, ℤ, Bool, true, false, List, ◌++◌, map, Contains, AllPairs, bytes_eq, Option, None, Some}
use Rattle.std.specs.Int.Signed.{mag}
use Rattle.std.specs.List.{AllByRecursion, IsDistinct}
use Rattle.std.specs.List.Sorted.{IsStrictlySortedBy}
use Rattle.std.specs.Cmp.Lexicographic.{slice_cmp}
use Rattle.std.specs.Ordering.{nat_cmp, on}
use Rattle.metrics_names.specs.declared.kind.MetricKind.{MetricKind}
use Rattle.metrics_names.specs.declared.kind.MetricKind.TheVariants.{Histogram}
use Rattle.metrics_names.specs.Names.{LabelParts, SeriesKey, kind_eq}
use Rattle.metrics_exporter.specs.Exporting.{Cells, Reading, count, level, samples}
use Rattle.metrics_exporter.specs.Readings.{KeyedReading, reading_in}
use Rattle.metrics_storage.specs.Histogram.{Distribution}
use Rattle.metrics_exposition.specs.Names.{is_name}
use Rattle.metrics_exposition.specs.Labels.{AreTexts}
use Rattle.metrics_exposition.specs.Numbers.{number}
use Rattle.metrics_exposition.specs.Samples.{Sample, series_text, bucket_sample, histogram_ends}

-- its name and those of its labels are such as Prometheus allows
pub record HasNames (s : Sample) : Type 0 where
  pub name : is_name true s.name ≡ true
  pub keys : AllByRecursion (λ l. is_name false l.0 ≡ true) s.labels

-- a sample that its line determines
pub record CanBeRead (s : Sample) : Type 0 where
  pub names : HasNames s
  pub texts : AreTexts s.labels

-- two samples have the same text before their values
abbrev pub is_same_text : Sample → Sample → Bool
is_same_text a b = bytes_eq (series_text a) (series_text b)

-- labels ascend by their names
abbrev pub Ascend : List LabelParts → Type 0
Ascend labels = IsStrictlySortedBy (on (λ l. l.0) (slice_cmp nat_cmp)) labels

-- no two labels of a sample have one name
abbrev pub NamesOnce : Sample → Type 0
NamesOnce s = IsDistinct (λ l m. bytes_eq l.0 m.0) s.labels

-- ---- what is held

-- the bound of a bucket is a number of 64 bits
abbrev pub IsSmall : ℤ × ℕ → Type 0
IsSmall b = mag b.0 < 2 ^ 63

-- a reading is of the kind, and its bounds are numbers of 64 bits
abbrev pub ReadsAs : MetricKind → Option Reading → Type 0
ReadsAs k None = Unit {0}
ReadsAs k (Some (count n)) = kind_eq k Histogram ≡ false
ReadsAs k (Some (level n)) = kind_eq k Histogram ≡ false
ReadsAs k (Some (samples d)) = (kind_eq k Histogram ≡ true) × AllByRecursion IsSmall d.buckets

-- so it is of a series with what it has
abbrev pub IsOfKind : KeyedReading → Type 0
IsOfKind t = ReadsAs t.0.kind (Some t.1)

-- so it is of each series
abbrev pub AreOfKinds : Cells → Type 0
AreOfKinds cells = (s : SeriesKey) → ReadsAs s.kind (reading_in cells s)

-- ---- the samples of a histogram

-- each bucket once, by ascending bounds, with numbers that don't fall and aren't above the count; after them +Inf's bucket,
-- which has the count, the sum and the count
pub record AreBuckets (places : ℕ) (name : List ℕ) (labels : List LabelParts) (d : Distribution) (ss : List Sample) : Type 0 where
  pub buckets : List (ℤ × ℕ)
  pub all : (b : ℤ × ℕ) → Contains buckets b ↔ Contains d.buckets b
  pub ascend : AllPairs (λ a b. (a.0 <ℤ b.0) × (a.1 ≤ b.1)) buckets
  pub within : AllByRecursion (λ b. b.1 ≤ d.count) buckets
  pub are : ss ≡ map (λ b. bucket_sample name labels (number places b.0) b.1) buckets ++ histogram_ends places name labels d
