-- No two samples of a text are of one series.
use Rattle.std.proofs.Common.{◌≡◌, Bool, true, false, List, [], ◌∷◌, ◌++◌, ℕ, None, refl, ap}
use Rattle.std.specs.Prelude.{bytes_eq}
use Rattle.std.specs.List.{AllByRecursion, IsDistinct}
use Rattle.std.specs.List.Sorted.{IsSorted}
use Rattle.std.specs.Cmp.Lexicographic.{pointwise}
use Rattle.metrics_names.specs.Names.{label_eq}
use Rattle.metrics_exporter.specs.Exporting.{Cells}
use Rattle.metrics_exposition.specs.Samples.{Sample, series_text}
use Rattle.metrics_exposition.specs.declared.naming.Naming.{Naming}
use Rattle.metrics_descriptions.specs.Legends.{Legend}
use Rattle.metrics_prometheus.specs.Exposition.{Row, row_cmp, is_taken, samples_of, reading_at, IsScaled}
use Rattle.metrics_prometheus.specs.Written.{written, samples_written, is_same_series}
use Rattle.metrics_exposition.specs.Reading.{CanBeRead, is_same_text, ReadsAs}
use Rattle.metrics_exposition.proofs.BackLemmas.{read-back}
use Rattle.metrics_prometheus.proofs.SampleLabelLemmas.{samples-read}
use Rattle.metrics_exposition.proofs.PairLemmas.{each-map, each-all, each-both, Pairs, pairs-with, pairs-flat}
use Rattle.metrics_exposition.proofs.SameLemmas.{both-true, same-bytes, same-labels}
use Rattle.metrics_prometheus.proofs.SampleLemmas.{Differ, IsAmong, IsFree, row-differs, rows-differ}
use Rattle.metrics_prometheus.proofs.UsingLemmas.{written-among}
use Rattle.metrics_prometheus.proofs.WrittenLemmas.{IsBefore, before-apart, written-ascend, written-free}

none-true : (b : Bool) → (b ≡ true → ⊥) → b ≡ false
none-true true h = absurd (h refl)
none-true false h = refl

apart-test : (s t : Sample) → Differ s t → is_same_series s t ≡ false
apart-test s t differ =
    none-true (is_same_series s t) (λ e.
    let parts = both-true (bytes_eq s.name t.name) (pointwise label_eq s.labels t.labels) e in
    differ (same-bytes s.name t.name parts.0) (same-labels s.labels t.labels parts.1))

distinct-from : (ss : List Sample) → Pairs Differ ss → IsDistinct is_same_series ss
unfolding IsDistinct
distinct-from [] p = tt
distinct-from (s ∷ ss) p = (each-map (Differ s) (λ t. is_same_series s t ≡ false) (apart-test s) ss p.0, distinct-from ss p.1)

-- the samples of two rows that are written differ
abbrev pub AreAcross : Cells → Row → Row → Type 0
AreAcross cells a b = AllByRecursion (λ s. AllByRecursion (Differ s) (samples_of b (reading_at cells b))) (samples_of a (reading_at cells a))

pub rows-across : (cells : Cells) (rows : List Row) → IsSorted row_cmp rows → ((r : Row) → ReadsAs r.kind (reading_at cells r)) → Pairs (AreAcross cells) (written rows None rows)
rows-across cells rows up reads =
    let done = written rows None rows in
    let free : AllByRecursion (IsFree rows) done = each-both (λ r. is_taken rows r.name ≡ false) (IsAmong rows) done (written-free rows None rows) (written-among rows up) in
    pairs-with (IsFree rows) IsBefore (AreAcross cells) (λ a b fa fb before. rows-differ rows a b (reading_at cells a) (reading_at cells b) (reads a) (reads b) fa fb (before-apart a b before)) done free (written-ascend rows up)

pub samples-differ : (cells : Cells) (rows : List Row) → IsSorted row_cmp rows → ((r : Row) → ReadsAs r.kind (reading_at cells r)) → Pairs Differ (samples_written cells rows)
samples-differ cells rows up reads =
    let done = written rows None rows in
    let f : Row → List Sample = λ r. samples_of r (reading_at cells r) in
    pairs-flat f Differ done (each-all (λ r. Pairs Differ (f r)) (λ r. row-differs r (reading_at cells r) (reads r)) done) (rows-across cells rows up reads)

pub samples-distinct : (cells : Cells) (rows : List Row) → IsSorted row_cmp rows → ((r : Row) → ReadsAs r.kind (reading_at cells r)) → IsDistinct is_same_series (samples_written cells rows)
samples-distinct cells rows up reads = distinct-from (samples_written cells rows) (samples-differ cells rows up reads)

-- ---- as text

abbrev OtherText : Sample → Sample → Type 0
OtherText s t = is_same_text s t ≡ false

text-test : (s t : Sample) → CanBeRead s → CanBeRead t → Differ s t → OtherText s t
text-test s t hs ht differ =
    none-true (is_same_text s t) (λ e.
    let same = read-back s t hs ht [] [] (ap (λ l. l ++ 32 ∷ []) (same-bytes (series_text s) (series_text t) e)) in
    differ same.0 same.1.0)

texts-from : (ss : List Sample) → Pairs OtherText ss → IsDistinct is_same_text ss
unfolding IsDistinct
texts-from [] p = tt
texts-from (s ∷ ss) p = (p.0, texts-from ss p.1)

pub texts-distinct : {naming : Naming} {legend : Legend} {places : List ℕ → ℕ} (cells : Cells) → ((r : Row) → ReadsAs r.kind (reading_at cells r)) → (text : List ℕ) (e : IsScaled naming legend places cells text) → IsDistinct is_same_text (samples_written cells e.rows)
texts-distinct cells reads text e =
    let ss = samples_written cells e.rows in
    texts-from ss (pairs-with CanBeRead Differ OtherText text-test ss (samples-read cells reads text e) (samples-differ cells e.rows e.all.ordered reads))
