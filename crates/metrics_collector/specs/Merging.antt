-- What two readings have together.
use Rattle.std.specs.Prelude.{if◌then◌else◌, ◌≡◌, ℕ, Bool, ◌+◌, ◌≤◌, ◌%◌, ◌^◌, List, [], ◌∷◌, map, take, slice_get, Option, None, Some}
use Rattle.std.specs.List.{filter_map, AllByRecursion, IsDistinct}
use Rattle.std.specs.Map.{lookup}
use Rattle.metrics_names.specs.Names.{SeriesKey, series_key_eq}
use Rattle.metrics_storage.specs.Histogram.{Distribution, merged, bounds_of}
use Rattle.metrics_exporter.specs.Exporting.{Reading, count, level, samples}
use Rattle.metrics_exporter.specs.Readings.{KeyedReading}
use Rattle.metrics_collector.specs.declared.gathered.GatheredSeries.{GatheredSeries}
use Rattle.metrics_collector.specs.declared.merging.AbsorbError.{AbsorbError}
use Rattle.metrics_collector.specs.declared.merging.AbsorbError.TheVariants.{Memory, OtherBounds, CountFull}
use Rattle.metrics_collector.specs.Gathering.{keyed_gathered}

-- counts are added modulo 2^64, samples are put together, and of a gauge the later value stays
abbrev pub joined : Reading → Reading → Reading
joined (count m) (count n) = count ((m + n) % 2 ^ 64)
joined (samples d) (samples e) = samples (merged d e)
joined old new = new

-- a reading joined with what there was before, if there was something
abbrev pub joined_with : Option Reading → Reading → Reading
joined_with None new = new
joined_with (Some old) new = joined old new

-- what a series has after all of these, in order
abbrev pub joined_all : Option Reading → List Reading → Option Reading
joined_all old [] = old
joined_all old (new ∷ more) = joined_all (Some (joined_with old new)) more

-- what rows report of a series, in order
abbrev pub readings_of : SeriesKey → List KeyedReading → List Reading
readings_of s keyed = filter_map (λ t. if series_key_eq s t.0 then Some t.1 else None) keyed

-- what a series has; the first if it comes again
abbrev pub reading_of_series : SeriesKey → List KeyedReading → Option Reading
reading_of_series s keyed = lookup (series_key_eq s) keyed

-- each series has what it had, and what the other rows report of it
abbrev pub AreJoined : List KeyedReading → List KeyedReading → List KeyedReading → Type 0
AreJoined old other new = (s : SeriesKey) → reading_of_series s new ≡ joined_all (reading_of_series s old) (readings_of s other)

-- the keys of rows are those of different series
abbrev pub HasEachOnce : List KeyedReading → Type 0
HasEachOnce keyed = IsDistinct series_key_eq (map (λ t. t.0) keyed)

-- ---- why rows can't be joined

-- samples at other bounds, or in another order, can't be put together, nor can more than 2^64 - 1
abbrev pub AreRefused : AbsorbError → Distribution → Distribution → Type 0
AreRefused Memory d e = ⊥
AreRefused OtherBounds d e = bounds_of d ≡ bounds_of e → ⊥
AreRefused CountFull d e = (bounds_of d ≡ bounds_of e) × (2 ^ 64 ≤ d.count + e.count)

abbrev pub AreRefusedWith : AbsorbError → Distribution → Option Reading → Type 0
AreRefusedWith error e (Some (samples d)) = AreRefused error d e
AreRefusedWith error e old = ⊥

-- a reading can't be joined with what was there before, since both are samples
abbrev pub IsRefused : AbsorbError → Option Reading → Reading → Type 0
IsRefused error old (samples e) = AreRefusedWith error e old
IsRefused error old new = ⊥

-- a row can't be joined with what its series has after the rows before it
abbrev pub IsRowRefused : AbsorbError → List KeyedReading → List KeyedReading → ℕ → KeyedReading → Type 0
IsRowRefused error old other place t = IsRefused error (joined_all (reading_of_series t.0 old) (readings_of t.0 (take place other))) t.1

-- this is so of one of the other rows
abbrev pub HasRefused : AbsorbError → List KeyedReading → List KeyedReading → Type 0
HasRefused error old other = (place : ℕ) × (t : KeyedReading) × (slice_get other place ≡ Some t) × IsRowRefused error old other place t

-- ---- row by row

-- two rows are of one series
abbrev pub are_same : GatheredSeries → GatheredSeries → Bool
are_same row other = series_key_eq (keyed_gathered row).0 (keyed_gathered other).0

-- rows with one more: the first of its series is joined with it, or else it comes last
abbrev pub with_reading : KeyedReading → List KeyedReading → List KeyedReading
with_reading t [] = t ∷ []
with_reading t (x ∷ xs) = if series_key_eq t.0 x.0 then (x.0, joined x.1 t.1) ∷ xs else x ∷ with_reading t xs

-- rows with all of these, one after another
abbrev pub with_all : List KeyedReading → List KeyedReading → List KeyedReading
with_all [] keyed = keyed
with_all (t ∷ ts) keyed = with_all ts (with_reading t keyed)

-- ---- in either order

abbrev pub IsCount : Reading → Type 0
IsCount (count n) = Unit {0}
IsCount (level n) = ⊥
IsCount (samples d) = ⊥

-- each series once, and each a counter
pub record AreCounters (keyed : List KeyedReading) : Type 0 where
  pub once : HasEachOnce keyed
  pub counts : AllByRecursion (λ t. IsCount t.1) keyed
