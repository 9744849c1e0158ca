-- What is held of a series is of its kind.
use Rattle.std.proofs.Common.{◌≡◌, ◌∙◌, ◌<◌, ◌^◌, ℕ, ℤ, List, [], ◌∷◌, map, Some, None, Option, option_map, subst, refl, ap, sym}
use Rattle.std.specs.List.{All, AllByRecursion}
use Rattle.std.specs.Int.{w64}
use Rattle.std.specs.Int.RustNames.{FitsSigned}
use Rattle.std.specs.Int.Signed.{mag}
use Rattle.metrics_names.specs.declared.common.Unit.{Unit as Measure}
use Rattle.metrics_names.specs.declared.kind.MetricKind.{MetricKind}
use Rattle.metrics_names.specs.declared.kind.MetricKind.TheVariants.{Counter, Gauge, Histogram}
use Rattle.metrics_names.specs.Names.{SeriesKey, kind_eq}
use Rattle.metrics.specs.declared.handles.Update.{Update}
use Rattle.metrics.specs.declared.handles.Update.TheVariants.{Increment, Absolute, Add, Subtract, Set, Record}
use Rattle.metrics.specs.declared.debugging.DebugValue.{DebugValue}
use Rattle.metrics.specs.declared.debugging.DebugValue.TheVariants as value
use Rattle.metrics.specs.Book.{new_value, updated, value_from}
use Rattle.metrics_storage.specs.Histogram.{Distribution, bucket_with, no_samples, with_samples}
use Rattle.metrics_exporter.specs.Exporting.{Reading, count, level, samples, Cells, Setup, Step, since, unit_since, reading, cell_of, cells_after}
use Rattle.metrics_exporter.specs.Gathering.{series_at}
use Rattle.metrics_exposition.specs.Samples.{histogram_samples}
use Rattle.metrics_prometheus.specs.Exposition.{Row, reading_at, samples_of}
use Rattle.metrics_exposition.specs.Reading.{AreBuckets, IsSmall, ReadsAs, AreOfKinds}
use Rattle.metrics_exposition.proofs.BucketLemmas.{buckets-are}
use Rattle.metrics_exposition.proofs.PairLemmas.{each-places}
use Rattle.metrics_prometheus.proofs.SampleLabelLemmas.{IsOfKind}

abbrev value_kind : DebugValue → MetricKind
value_kind (value.Counter n) = Counter
value_kind (value.Gauge n) = Gauge
value_kind (value.Histogram xs) = Histogram

kept : (u : Update) (v : DebugValue) → value_kind (updated u v) ≡ value_kind v
kept (Increment n) (value.Counter m) = refl
kept (Increment n) (value.Gauge m) = refl
kept (Increment n) (value.Histogram xs) = refl
kept (Absolute n) (value.Counter m) = refl
kept (Absolute n) (value.Gauge m) = refl
kept (Absolute n) (value.Histogram xs) = refl
kept (Add n) (value.Counter m) = refl
kept (Add n) (value.Gauge m) = refl
kept (Add n) (value.Histogram xs) = refl
kept (Subtract n) (value.Counter m) = refl
kept (Subtract n) (value.Gauge m) = refl
kept (Subtract n) (value.Histogram xs) = refl
kept (Set n) (value.Counter m) = refl
kept (Set n) (value.Gauge m) = refl
kept (Set n) (value.Histogram xs) = refl
kept (Record n) (value.Counter m) = refl
kept (Record n) (value.Gauge m) = refl
kept (Record n) (value.Histogram xs) = refl

kept-by : (us : List Update) (v : DebugValue) → value_kind (value_from v us) ≡ value_kind v
kept-by [] v = refl
kept-by (u ∷ us) v = kept-by us (updated u v) ∙ kept u v

new-kind : (k : MetricKind) → value_kind (new_value k) ≡ k
new-kind Counter = refl
new-kind Gauge = refl
new-kind Histogram = refl

small-buckets : (xs bounds : List ℤ) → AllByRecursion (λ b. mag b < 2 ^ 63) bounds → AllByRecursion IsSmall (map (bucket_with xs) (map (λ b. (b, 0)) bounds))
small-buckets xs [] h = tt
small-buckets xs (b ∷ bs) h = (h.0, small-buckets xs bs h.1)

reads-value : (bounds : List ℤ) → AllByRecursion (λ b. mag b < 2 ^ 63) bounds → (k : MetricKind) (v : DebugValue) → value_kind v ≡ k → ReadsAs k (Some (reading bounds v))
reads-value bounds small k (value.Counter n) e = ap (λ j. kind_eq j Histogram) (sym e)
reads-value bounds small k (value.Gauge n) e = ap (λ j. kind_eq j Histogram) (sym e)
reads-value bounds small k (value.Histogram xs) e = (ap (λ j. kind_eq j Histogram) (sym e), small-buckets xs bounds small)

reads : (bounds : List ℤ) → AllByRecursion (λ b. mag b < 2 ^ 63) bounds → (s : SeriesKey) (us : List Update) → ReadsAs s.kind (option_map (λ c. c.reading) (cell_of bounds s us))
reads bounds small s [] = tt
reads bounds small s (u ∷ us) = reads-value bounds small s.kind (value_from (new_value s.kind) (u ∷ us)) (kept-by (u ∷ us) (new_value s.kind) ∙ new-kind s.kind)

small : (z : ℤ) → FitsSigned w64 z → mag z < 2 ^ 63
small z h = h.sfits

-- what an exporter holds after some steps
pub kinds-after : (setup : Setup) (xs : List Step) → ((unit : Option Measure) (name : List ℕ) → All (FitsSigned w64) (setup.bounds unit name)) → AreOfKinds (cells_after setup xs)
kinds-after setup xs fits s =
    let bounds = setup.bounds (unit_since xs s) s.key.name in
    reads bounds (each-places (λ b. mag b < 2 ^ 63) bounds (λ k d within. small _ (fits (unit_since xs s) s.key.name k d within))) s (since xs s)

-- what is held of a row's series
pub rows-read : (cells : Cells) → AreOfKinds cells → (r : Row) → ReadsAs r.kind (reading_at cells r)
rows-read cells kinds r = kinds (series_at r.kind r.key)

kind-of : (k : MetricKind) (o : Option Reading) → ReadsAs k o → IsOfKind k o
kind-of k None h = tt
kind-of k (Some (count n)) h = tt
kind-of k (Some (level n)) h = tt
kind-of k (Some (samples d)) h = h.0

pub rows-of-kind : (cells : Cells) → AreOfKinds cells → (r : Row) → IsOfKind r.kind (reading_at cells r)
rows-of-kind cells kinds r = kind-of r.kind (reading_at cells r) (rows-read cells kinds r)

-- ---- samples at bounds are those of a list

abbrev IsMade : List ℤ → Option Reading → Type 0
IsMade bounds None = Unit {0}
IsMade bounds (Some (count n)) = Unit {0}
IsMade bounds (Some (level n)) = Unit {0}
IsMade bounds (Some (samples d)) = (zs : List ℤ) × (with_samples zs (no_samples bounds) ≡ d)

made-value : (bounds : List ℤ) (v : DebugValue) → IsMade bounds (Some (reading bounds v))
made-value bounds (value.Counter n) = tt
made-value bounds (value.Gauge n) = tt
made-value bounds (value.Histogram zs) = (zs, refl)

made : (bounds : List ℤ) (s : SeriesKey) (us : List Update) → IsMade bounds (option_map (λ c. c.reading) (cell_of bounds s us))
made bounds s [] = tt
made bounds s (u ∷ us) = made-value bounds (value_from (new_value s.kind) (u ∷ us))

-- the samples of a row whose series is a histogram
pub rows-buckets : (setup : Setup) (xs : List Step) (r : Row) (d : Distribution) → reading_at (cells_after setup xs) r ≡ Some (samples d)
    → AreBuckets r.places r.name r.labels d (samples_of r (reading_at (cells_after setup xs) r))
rows-buckets setup xs r d e =
    let s = series_at r.kind r.key in
    let bounds = setup.bounds (unit_since xs s) s.key.name in
    let from = subst (IsMade bounds) e (made bounds s (since xs s)) in
    let is = subst (λ k. AreBuckets r.places r.name r.labels k (histogram_samples r.places r.name r.labels k)) from.1 (buckets-are from.0 bounds r.places r.name r.labels) in
    subst (λ o. AreBuckets r.places r.name r.labels d (samples_of r o)) (sym e) is
