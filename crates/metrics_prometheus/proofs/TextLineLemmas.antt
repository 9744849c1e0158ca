-- The lines of a text, and the samples that they have.
use Rattle.std.proofs.Common.{◌≡◌, ◌∙◌, ℕ, ℤ, Bool, true, false, cond, List, [], ◌∷◌, ◌++◌, map, codes, Option, Some, None, is_some, refl, ap, sym, append-nil, append_assoc}
use Rattle.std.specs.Prelude.{bytes_eq}
use Rattle.std.specs.List.{AllByRecursion, flat_map, filter_map, list_all}
use Rattle.std.proofs.lemmas.Grind.{flat_map-append}
use Rattle.std.proofs.lemmas.List.Elements.{filter_map-append}
use Rattle.metrics_names.specs.declared.kind.MetricKind.{MetricKind}
use Rattle.metrics_names.specs.declared.kind.MetricKind.TheVariants.{Counter, Gauge, Histogram}
use Rattle.metrics_exporter.specs.Exporting.{Cells, Reading, count, level, samples}
use Rattle.metrics_names.specs.Names.{kind_word}
use Rattle.metrics_exposition.specs.Names.{goes_on, is_name, help_escaped}
use Rattle.metrics_storage.specs.Histogram.{ascending}
use Rattle.metrics_exposition.specs.Numbers.{number}
use Rattle.metrics_exposition.specs.Samples.{Sample, labels_text, sample_line, lines, bucket_sample}
use Rattle.metrics_exposition.specs.declared.naming.Naming.{Naming}
use Rattle.metrics_descriptions.specs.Legends.{Legend}
use Rattle.metrics_prometheus.specs.Exposition.{Row, Reason, label_twice, label_reserved, part, name_taken, labels_taken, reason_of, reason_text, series_named, row_lines_as, left_out_words, help_line, type_line, name_lines, name_text, samples_of, reading_at, left_out_line, last_after, rows_text, IsScaled}
use Rattle.metrics_prometheus.specs.Written.{written, samples_written, Line, has, describes, tells_kind, leaves_out, line_text, sample_in, IsLine, IsReadable, HasSamples}
use Rattle.metrics_exposition.proofs.PairLemmas.{each-append}
use Rattle.metrics_exposition.proofs.NameLemmas.{AreKeyed, name-more, named-from}
use Rattle.metrics_exposition.proofs.FeedLemmas.{HasNoFeed, join, plain, name-plain, labels-plain, decimal-plain, unsigned-plain, number-plain, help-plain}
use Rattle.metrics_exposition.proofs.NamingLemmas.{shown-name}
use Rattle.metrics_prometheus.proofs.HeadLemmas.{no-comment}
use Rattle.metrics_exposition.proofs.LabelLemmas.{labels-keyed}
use Rattle.metrics_prometheus.proofs.HeldLemmas.{each-row}

-- a text is these lines, and these are their samples
pub record AreLines (all : List Line) (text : List ℕ) (samples : List Sample) : Type 0 where
  pub text_is : text ≡ flat_map line_text all
  pub readable : AllByRecursion IsReadable all
  pub samples_are : filter_map sample_in all ≡ samples

nothing : AreLines [] [] []
nothing = record { text_is = refl; readable = tt; samples_are = refl }

-- one text after another
joined : (a b : List Line) (t u : List ℕ) (ss zs : List Sample) → AreLines a t ss → AreLines b u zs → AreLines (a ++ b) (t ++ u) (ss ++ zs)
joined a b t u ss zs h g = record {
  text_is = ap (λ x. x ++ u) h.text_is ∙ ap (λ x. flat_map line_text a ++ x) g.text_is ∙ sym (flat_map-append line_text a b);
  readable = each-append IsReadable a b h.readable g.readable;
  samples_are = filter_map-append sample_in a b ∙ ap (λ x. x ++ filter_map sample_in b) h.samples_are ∙ ap (λ x. ss ++ x) g.samples_are;
}

-- rows with names that Prometheus allows
abbrev pub IsNamedRow : Row → Type 0
IsNamedRow r = (is_name true r.name ≡ true) × AreKeyed r.labels

kind-plain : (k : MetricKind) → HasNoFeed (kind_word k)
kind-plain Counter = plain (kind_word Counter) refl
kind-plain Gauge = plain (kind_word Gauge) refl
kind-plain Histogram = plain (kind_word Histogram) refl

type-line : (r : Row) → IsNamedRow r → IsLine (type_line r)
type-line r h = record {
  inside = codes "# TYPE " ++ (r.name ++ (32 ∷ kind_word r.kind));
  is = ap (λ t. codes "# TYPE " ++ t) (sym (append_assoc r.name (32 ∷ kind_word r.kind) (10 ∷ [])));
  none = join (codes "# TYPE ") _ (plain (codes "# TYPE ") refl) (join r.name (32 ∷ kind_word r.kind) (name-plain true r.name h.0) (join (32 ∷ []) (kind_word r.kind) (plain (32 ∷ []) refl) (kind-plain r.kind)));
}

reason-plain : (why : Reason) → HasNoFeed (reason_text why)
reason-plain label_twice = plain (codes "two labels of one name") refl
reason-plain (label_reserved n) = join (codes "label ") (help_escaped n) (plain (codes "label ") refl) (help-plain n)
reason-plain (part n) = join (codes "name of a part of histogram ") (help_escaped n) (plain (codes "name of a part of histogram ") refl) (help-plain n)
reason-plain (name_taken k) = join (codes "name taken by a ") (kind_word k) (plain (codes "name taken by a ") refl) (kind-plain k)
reason-plain (labels_taken n) = join (codes "labels equal those of ") (help_escaped n) (plain (codes "labels equal those of ") refl) (help-plain n)

series-plain : (r : Row) → AreKeyed r.labels → HasNoFeed (series_named r)
series-plain r keyed = join (kind_word r.kind) _ (kind-plain r.kind) (join (32 ∷ []) _ (plain (32 ∷ []) refl) (join (help_escaped r.key.name) (labels_text r.labels) (help-plain r.key.name) (labels-plain r.labels keyed)))

pub left-line : (r : Row) (why : Reason) → AreKeyed r.labels → IsLine (left_out_line r why)
left-line r why keyed = record {
  inside = codes "# left out: " ++ left_out_words r why;
  is = refl;
  none = join (codes "# left out: ") _ (plain (codes "# left out: ") refl) (join (series_named r) _ (series-plain r keyed) (join (codes ": ") (reason_text why) (plain (codes ": ") refl) (reason-plain why)));
}

-- a sample with names that Prometheus allows, and a value without a line feed
pub record IsPlain (s : Sample) : Type 0 where
  pub name : is_name true s.name ≡ true
  pub keys : AreKeyed s.labels
  pub value : HasNoFeed s.value

sample-line : (s : Sample) → IsPlain s → IsLine (sample_line s)
sample-line s h = record {
  inside = s.name ++ (labels_text s.labels ++ (32 ∷ s.value));
  is = sym (append_assoc s.name _ (10 ∷ []) ∙ ap (λ t. s.name ++ t) (append_assoc (labels_text s.labels) (32 ∷ s.value) (10 ∷ [])));
  none = join s.name _ (name-plain true s.name h.name) (join (labels_text s.labels) (32 ∷ s.value) (labels-plain s.labels h.keys) (join (32 ∷ []) s.value (plain (32 ∷ []) refl) h.value));
}

of-type : (r : Row) → IsNamedRow r → AreLines (tells_kind r ∷ []) (type_line r) []
of-type r h = record { text_is = sym (append-nil (type_line r)); readable = (record { ends = type-line r h; comment = refl }, tt); samples_are = refl }

help-line : (name text : List ℕ) → is_name true name ≡ true → IsLine (help_line name (Some text))
help-line name text h = record {
  inside = codes "# HELP " ++ (name ++ (32 ∷ help_escaped text));
  is = ap (λ t. codes "# HELP " ++ t) (sym (append_assoc name (32 ∷ help_escaped text) (10 ∷ [])));
  none = join (codes "# HELP ") _ (plain (codes "# HELP ") refl) (join name (32 ∷ help_escaped text) (name-plain true name h) (join (32 ∷ []) (help_escaped text) (plain (32 ∷ []) refl) (help-plain text)));
}

abbrev pub help_at : List ℕ → Option (List ℕ) → List Line
help_at name None = []
help_at name (Some text) = describes name text ∷ []

of-help : (name : List ℕ) (help : Option (List ℕ)) → is_name true name ≡ true → AreLines (help_at name help) (help_line name help) []
of-help name None h = nothing
of-help name (Some text) h = record { text_is = sym (append-nil (help_line name (Some text))); readable = (record { ends = help-line name text h; comment = refl }, tt); samples_are = refl }

-- the lines that a name begins with
abbrev pub begin_at : Row → List Line
begin_at r = help_at r.name r.help ++ tells_kind r ∷ []

of-begin : (r : Row) → IsNamedRow r → AreLines (begin_at r) (name_lines r) []
of-begin r h = joined (help_at r.name r.help) (tells_kind r ∷ []) (help_line r.name r.help) (type_line r) [] [] (of-help r.name r.help h.0) (of-type r h)

of-left : (r : Row) (why : Reason) → IsNamedRow r → AreLines (leaves_out r why ∷ []) (left_out_line r why) []
of-left r why h = record { text_is = sym (append-nil (left_out_line r why)); readable = (record { ends = left-line r why h.1; comment = refl }, tt); samples_are = refl }

of-samples : (ss : List Sample) → AllByRecursion IsPlain ss → AreLines (map has ss) (lines ss) ss
of-samples [] h = nothing
of-samples (s ∷ ss) h =
    let rest = of-samples ss h.1 in
    record {
      text_is = ap (λ t. sample_line s ++ t) rest.text_is;
      readable = (record { ends = sample-line s h.0; comment = no-comment s.name _ h.0.name }, rest.readable);
      samples_are = ap (λ l. s ∷ l) rest.samples_are;
    }

abbrev pub name_at : Option Row → Row → List Line
name_at None r = begin_at r
name_at (Some w) r = cond (bytes_eq w.name r.name) [] (begin_at r)

of-name : (last : Option Row) (r : Row) → IsNamedRow r → AreLines (name_at last r) (name_text last r) []
of-name None r h = of-begin r h
of-name (Some w) r h = by-name (bytes_eq w.name r.name)
  where
    by-name : (b : Bool) → AreLines (cond b [] (begin_at r)) (cond b [] (name_lines r)) []
    by-name true = nothing
    by-name false = of-begin r h

-- ---- a row's samples

part-name : (r : Row) (end : List ℕ) → IsNamedRow r → list_all (goes_on true) end ≡ true → is_name true (r.name ++ end) ≡ true
part-name r end h g = name-more true r.name end h.0 (named-from true end g)

bucket-plain : (r : Row) → IsNamedRow r → (bound : List ℕ) (n : ℕ) → IsPlain (bucket_sample r.name r.labels bound n)
bucket-plain r h bound n = record {
  name = part-name r (codes "_bucket") h refl;
  keys = each-append (λ l. is_name false l.0 ≡ true) r.labels ((codes "le", bound) ∷ []) h.1 (refl, tt);
  value = decimal-plain n;
}

buckets-plain : (r : Row) → IsNamedRow r → (bs : List (ℤ × ℕ)) → AllByRecursion IsPlain (map (λ b. bucket_sample r.name r.labels (number r.places b.0) b.1) bs)
buckets-plain r h [] = tt
buckets-plain r h (b ∷ bs) = (bucket-plain r h (number r.places b.0) b.1, buckets-plain r h bs)

pub samples-plain : (r : Row) → IsNamedRow r → (o : Option Reading) → AllByRecursion IsPlain (samples_of r o)
samples-plain r h None = tt
samples-plain r h (Some (count n)) = (record { name = h.0; keys = h.1; value = unsigned-plain r.places n }, tt)
samples-plain r h (Some (level n)) = (record { name = h.0; keys = h.1; value = number-plain r.places n }, tt)
samples-plain r h (Some (samples d)) =
    each-append IsPlain (map (λ b. bucket_sample r.name r.labels (number r.places b.0) b.1) (ascending d.buckets)) _ (buckets-plain r h (ascending d.buckets))
    (bucket-plain r h (codes "+Inf") d.count, (record { name = part-name r (codes "_sum") h refl; keys = h.1; value = number-plain r.places d.sum }, (record { name = part-name r (codes "_count") h refl; keys = h.1; value = decimal-plain d.count }, tt)))

module _ (cells : Cells) (all : List Row) where
  abbrev pub samples_at : Row → List Sample
  samples_at r = samples_of r (reading_at cells r)

  abbrev pub row_at : Option Reason → Option Row → Row → List Line
  row_at None last x = name_at last x ++ map has (samples_at x)
  row_at (Some why) last x = leaves_out x why ∷ []

  abbrev pub lines_of : Option Row → List Row → List Line
  lines_of last [] = []
  lines_of last (x ∷ xs) = row_at (reason_of all last x) last x ++ lines_of (last_after all last x) xs

  -- a row, and those after it
  of-row : (last : Option Row) (x : Row) → IsNamedRow x → (xs : List Row) (o : Option Reason) → ((next : Option Row) → AreLines (lines_of next xs) (rows_text cells all next xs) (flat_map samples_at (written all next xs)))
      → AreLines (row_at o last x ++ lines_of (cond (is_some o) last (Some x)) xs) (row_lines_as o (reading_at cells x) last x ++ rows_text cells all (cond (is_some o) last (Some x)) xs) (flat_map samples_at (cond (is_some o) (written all last xs) (x ∷ written all (Some x) xs)))
  of-row last x h xs (Some why) rest = joined (leaves_out x why ∷ []) (lines_of last xs) (left_out_line x why) (rows_text cells all last xs) [] (flat_map samples_at (written all last xs)) (of-left x why h) (rest last)
  of-row last x h xs None rest =
      joined (name_at last x ++ map has (samples_at x)) (lines_of (Some x) xs) (name_text last x ++ lines (samples_at x)) (rows_text cells all (Some x) xs) (samples_at x) (flat_map samples_at (written all (Some x) xs))
      (joined (name_at last x) (map has (samples_at x)) (name_text last x) (lines (samples_at x)) [] (samples_at x) (of-name last x h) (of-samples (samples_at x) (samples-plain x h (reading_at cells x)))) (rest (Some x))

  of-rows : (xs : List Row) → AllByRecursion IsNamedRow xs → (last : Option Row) → AreLines (lines_of last xs) (rows_text cells all last xs) (flat_map samples_at (written all last xs))
  of-rows [] h last = nothing
  of-rows (x ∷ xs) h last = of-row last x h.0 xs (reason_of all last x) (λ next. of-rows xs h.1 next)

pub text-lines : {naming : Naming} {legend : Legend} {places : List ℕ → ℕ} (cells : Cells) (text : List ℕ) (e : IsScaled naming legend places cells text) → AreLines (lines_of cells e.rows None e.rows) text (samples_written cells e.rows)
text-lines {naming} {legend} {places} cells text e =
    let h = of-rows cells e.rows e.rows (each-row IsNamedRow cells e.rows e.all (λ s held. (shown-name naming s.kind (legend s.kind s.key.name).unit s.key.name, labels-keyed s.key.labels))) None in
    record { text_is = e.is ∙ h.text_is; readable = h.readable; samples_are = h.samples_are }

pub text-has : {naming : Naming} {legend : Legend} {places : List ℕ → ℕ} (cells : Cells) (text : List ℕ) (e : IsScaled naming legend places cells text) → HasSamples text (samples_written cells e.rows)
text-has cells text e =
    let h = text-lines cells text e in
    record { all = lines_of cells e.rows None e.rows; text_is = h.text_is; readable = h.readable; samples_are = h.samples_are }
