-- The names and labels of the samples that are written.
use Rattle.std.proofs.Common.{◌≡◌, ◌<◌, ℕ, ℤ, true, List, [], ◌∷◌, ◌++◌, map, codes, Option, Some, None, arith}
use Rattle.std.specs.Str.{IsUtf8}
use Rattle.std.proofs.lemmas.Str.{IsUtf8-from_ascii}
use Rattle.std.proofs.lemmas.Str.Ascii.{IsAscii-from_all}
use Rattle.std.proofs.lemmas.List.Elements.{All-from_recursion}
use Rattle.std.specs.List.{AllByRecursion}
use Rattle.metrics_names.specs.declared.kind.MetricKind.{MetricKind}
use Rattle.metrics_names.specs.declared.kind.MetricKind.TheVariants.{Histogram}
use Rattle.metrics_names.specs.Names.{LabelParts, kind_eq}
use Rattle.metrics_exporter.specs.Exporting.{Cells, Reading, count, level, samples}
use Rattle.metrics_exposition.specs.Labels.{are_fit, shown_labels, AreTexts}
use Rattle.metrics_storage.specs.Histogram.{ascending}
use Rattle.metrics_exposition.specs.Numbers.{number}
use Rattle.metrics_exposition.specs.Samples.{Sample, bucket_sample}
use Rattle.metrics_exposition.specs.declared.naming.Naming.{Naming}
use Rattle.metrics_descriptions.specs.Legends.{Legend}
use Rattle.metrics_exposition.specs.Naming.{Display}
use Rattle.metrics_prometheus.specs.Exposition.{Row, samples_of, reading_at, AreRows, IsScaled}
use Rattle.metrics_prometheus.specs.Written.{written, samples_written}
use Rattle.metrics_exposition.specs.Reading.{HasNames, CanBeRead, Ascend, NamesOnce, IsSmall, ReadsAs}
use Rattle.metrics_exposition.proofs.PairLemmas.{each-map, each-both, each-append, each-flat}
use Rattle.metrics_prometheus.proofs.WrittenLemmas.{written-each, written-fit}
use Rattle.metrics_exposition.proofs.NamingLemmas.{shown-name}
use Rattle.metrics_exposition.proofs.NumeralLemmas.{number-ascii}
use Rattle.metrics_exposition.proofs.LabelLemmas.{labels-keyed, shown-each, fit-ascend, once, once-bounded}
use Rattle.metrics_exposition.proofs.BoundLemmas.{with-each}
use Rattle.metrics_prometheus.proofs.HeldLemmas.{each-row}
use Rattle.metrics_prometheus.proofs.TextLineLemmas.{IsPlain, IsNamedRow, samples-plain}

-- ---- names

pub samples-named : {naming : Naming} {legend : Legend} {places : List ℕ → ℕ} (cells : Cells) (text : List ℕ) (e : IsScaled naming legend places cells text) → AllByRecursion HasNames (samples_written cells e.rows)
samples-named {naming} {legend} {places} cells text e =
    let done = written e.rows None e.rows in
    let named = written-each IsNamedRow e.rows None e.rows (each-row IsNamedRow cells e.rows e.all (λ s held. (shown-name naming s.kind (legend s.kind s.key.name).unit s.key.name, labels-keyed s.key.labels))) in
    each-flat (λ r. samples_of r (reading_at cells r)) HasNames done
    (each-map IsNamedRow (λ r. AllByRecursion HasNames (samples_of r (reading_at cells r)))
    (λ r h. each-map IsPlain HasNames (λ s p. record { name = p.name; keys = p.keys }) (samples_of r (reading_at cells r)) (samples-plain r h (reading_at cells r))) done named)

-- ---- the order of labels

abbrev IsFit : Row → Type 0
IsFit r = are_fit r.kind r.labels ≡ true

rows-ascend : {display : Display} (cells : Cells) (rows : List Row) → AreRows display cells rows → AllByRecursion (λ r. IsFit r → Ascend r.labels) rows
rows-ascend cells rows are = each-row (λ r. IsFit r → Ascend r.labels) cells rows are (λ s held fit. fit-ascend s.kind s.key.labels fit)

rows-fit : {display : Display} (cells : Cells) (rows : List Row) → AreRows display cells rows → AllByRecursion (λ r. IsFit r × Ascend r.labels) (written rows None rows)
rows-fit cells rows are =
    let done = written rows None rows in
    each-map (λ r. IsFit r × (IsFit r → Ascend r.labels)) (λ r. IsFit r × Ascend r.labels) (λ r h. (h.0, h.1 h.0)) done
    (each-both IsFit (λ r. IsFit r → Ascend r.labels) done (written-fit rows None rows) (written-each (λ r. IsFit r → Ascend r.labels) rows None rows (rows-ascend cells rows are)))

pub labels-ascend : {naming : Naming} {legend : Legend} {places : List ℕ → ℕ} (cells : Cells) (text : List ℕ) (e : IsScaled naming legend places cells text) → AllByRecursion (λ r. Ascend r.labels) (written e.rows None e.rows)
labels-ascend cells text e = each-map (λ r. IsFit r × Ascend r.labels) (λ r. Ascend r.labels) (λ r h. h.1) (written e.rows None e.rows) (rows-fit cells e.rows e.all)

-- ---- no label twice

-- samples at bounds are those of a histogram
abbrev pub IsOfKind : MetricKind → Option Reading → Type 0
IsOfKind k None = Unit {0}
IsOfKind k (Some (count n)) = Unit {0}
IsOfKind k (Some (level n)) = Unit {0}
IsOfKind k (Some (samples d)) = kind_eq k Histogram ≡ true

buckets-once : (r : Row) → kind_eq r.kind Histogram ≡ true → IsFit r → Ascend r.labels → (bs : List (ℤ × ℕ)) → AllByRecursion NamesOnce (map (λ b. bucket_sample r.name r.labels (number r.places b.0) b.1) bs)
buckets-once r hist fit up [] = tt
buckets-once r hist fit up (b ∷ bs) = (once-bounded r.kind r.labels (number r.places b.0) hist fit up, buckets-once r hist fit up bs)

row-once : (r : Row) (o : Option Reading) → IsOfKind r.kind o → IsFit r → Ascend r.labels → AllByRecursion NamesOnce (samples_of r o)
row-once r None k fit up = tt
row-once r (Some (count n)) k fit up = (once r.labels up, tt)
row-once r (Some (level n)) k fit up = (once r.labels up, tt)
row-once r (Some (samples d)) k fit up =
    each-append NamesOnce (map (λ b. bucket_sample r.name r.labels (number r.places b.0) b.1) (ascending d.buckets)) _ (buckets-once r k fit up (ascending d.buckets))
    (once-bounded r.kind r.labels (codes "+Inf") k fit up, (once r.labels up, (once r.labels up, tt)))

pub samples-once : {naming : Naming} {legend : Legend} {places : List ℕ → ℕ} (cells : Cells) → ((r : Row) → IsOfKind r.kind (reading_at cells r)) → (text : List ℕ) (e : IsScaled naming legend places cells text) → AllByRecursion NamesOnce (samples_written cells e.rows)
samples-once cells kinds text e =
    let done = written e.rows None e.rows in
    each-flat (λ r. samples_of r (reading_at cells r)) NamesOnce done
    (each-map (λ r. IsFit r × Ascend r.labels) (λ r. AllByRecursion NamesOnce (samples_of r (reading_at cells r))) (λ r h. row-once r (reading_at cells r) (kinds r) h.0 h.1) done (rows-fit cells e.rows e.all))

-- ---- values of labels

ascii-text : (bs : List ℕ) → AllByRecursion (λ b. b < 128) bs → IsUtf8 bs
ascii-text bs h = IsUtf8-from_ascii bs (IsAscii-from_all bs (All-from_recursion (λ b. b < 128) bs h))

infinity-text : IsUtf8 (codes "+Inf")
infinity-text = ascii-text (codes "+Inf") (omega arith, (omega arith, (omega arith, (omega arith, tt))))

labels-texts : (ls : List LabelParts) → AreTexts ls → AreTexts (shown_labels ls)
labels-texts ls h = shown-each (λ l. IsUtf8 l.1) (λ l. IsUtf8 l.1) (λ n v u. u) ls h

bounded-texts : (ls : List LabelParts) (v : List ℕ) → AreTexts ls → IsUtf8 v → AreTexts (ls ++ (codes "le", v) ∷ [])
bounded-texts ls v h u = each-append (λ l. IsUtf8 l.1) ls ((codes "le", v) ∷ []) h (u, tt)

abbrev HasTexts : Sample → Type 0
HasTexts s = AreTexts s.labels

buckets-texts : (r : Row) → AreTexts r.labels → (bs : List (ℤ × ℕ)) → AllByRecursion IsSmall bs → AllByRecursion HasTexts (map (λ b. bucket_sample r.name r.labels (number r.places b.0) b.1) bs)
buckets-texts r h [] small = tt
buckets-texts r h (b ∷ bs) small =
    let z = b.0 in
    (bounded-texts r.labels (number r.places z) h (ascii-text (number r.places z) (number-ascii r.places z small.0)), buckets-texts r h bs small.1)

row-texts : (r : Row) (o : Option Reading) → ReadsAs r.kind o → AreTexts r.labels → AllByRecursion HasTexts (samples_of r o)
row-texts r None k h = tt
row-texts r (Some (count n)) k h = (h, tt)
row-texts r (Some (level n)) k h = (h, tt)
row-texts r (Some (samples d)) k h =
    each-append HasTexts (map (λ b. bucket_sample r.name r.labels (number r.places b.0) b.1) (ascending d.buckets)) _ (buckets-texts r h (ascending d.buckets) (with-each IsSmall [] d.buckets tt k.1))
    (bounded-texts r.labels (codes "+Inf") h infinity-text, (h, (h, tt)))

samples-texts : {naming : Naming} {legend : Legend} {places : List ℕ → ℕ} (cells : Cells) → ((r : Row) → ReadsAs r.kind (reading_at cells r)) → (text : List ℕ) (e : IsScaled naming legend places cells text) → AllByRecursion HasTexts (samples_written cells e.rows)
samples-texts cells reads text e =
    let done = written e.rows None e.rows in
    let rows = each-row (λ r. AreTexts r.labels) cells e.rows e.all (λ s held. labels-texts s.key.labels (e.texts s held)) in
    each-flat (λ r. samples_of r (reading_at cells r)) HasTexts done
    (each-map (λ r. AreTexts r.labels) (λ r. AllByRecursion HasTexts (samples_of r (reading_at cells r))) (λ r h. row-texts r (reading_at cells r) (reads r) h) done (written-each (λ r. AreTexts r.labels) e.rows None e.rows rows))

pub samples-read : {naming : Naming} {legend : Legend} {places : List ℕ → ℕ} (cells : Cells) → ((r : Row) → ReadsAs r.kind (reading_at cells r)) → (text : List ℕ) (e : IsScaled naming legend places cells text) → AllByRecursion CanBeRead (samples_written cells e.rows)
samples-read cells reads text e =
    let ss = samples_written cells e.rows in
    each-map (λ s. HasNames s × HasTexts s) CanBeRead (λ s h. record { names = h.0; texts = h.1 }) ss (each-both HasNames HasTexts ss (samples-named cells text e) (samples-texts cells reads text e))
