-- Names and keys. A name is a list of bytes.
use Rattle.std.specs.Prelude.{ℕ, Bool, ◌&&◌, List, [], ◌∷◌, ◌++◌, bytes_eq, nat_eq, codes, flat_map}
use Rattle.std.specs.Cmp.Lexicographic.{pointwise, slice_cmp}
use Rattle.std.specs.List.Sorted.{IsPermutation, IsSorted}
use Rattle.std.specs.declared.cmp.Ordering.{Ordering}
use Rattle.std.specs.Ordering.{nat_cmp, on, then_cmp}
use Rattle.metrics_names.specs.declared.kind.MetricKind.{MetricKind}
use Rattle.metrics_names.specs.declared.kind.MetricKind.TheVariants.{Counter, Gauge, Histogram}

-- a label: its key and its value
abbrev pub LabelParts : Type 0
LabelParts = List ℕ × List ℕ

-- a key: its name, and its labels in order
pub record KeyParts : Type 0 where
  pub name : List ℕ
  pub labels : List (List ℕ × List ℕ)

-- a composite key: a kind and a key. It names a series of a book
pub record SeriesKey : Type 0 where
  pub kind : MetricKind
  pub key : KeyParts

-- the order of the kinds
abbrev pub kind_number : MetricKind → ℕ
kind_number Counter = 0
kind_number Gauge = 1
kind_number Histogram = 2

-- a kind's word
abbrev pub kind_word : MetricKind → List ℕ
kind_word Counter = codes "counter"
kind_word Gauge = codes "gauge"
kind_word Histogram = codes "histogram"

-- a name's word: a dash is the empty name
abbrev pub name_word : List ℕ → List ℕ
name_word [] = codes "-"
name_word (x ∷ xs) = x ∷ xs

-- a space, the label's key, an equals sign and the label's value
abbrev pub label_word : List ℕ × List ℕ → List ℕ
label_word l = 32 ∷ (l.0 ++ 61 ∷ l.1)

abbrev pub label_words : List (List ℕ × List ℕ) → List ℕ
label_words ls = flat_map label_word ls

-- the kinds are the same
abbrev pub kind_eq : MetricKind → MetricKind → Bool
kind_eq a b = nat_eq (kind_number a) (kind_number b)

-- labels are equal in key and value
abbrev pub label_eq : List ℕ × List ℕ → List ℕ × List ℕ → Bool
label_eq a b = bytes_eq a.0 b.0 && bytes_eq a.1 b.1

-- keys are equal in name and labels, in order
abbrev pub key_eq : KeyParts → KeyParts → Bool
key_eq a b = bytes_eq a.name b.name && pointwise label_eq a.labels b.labels

-- composite keys are equal in kind and key
abbrev pub series_key_eq : SeriesKey → SeriesKey → Bool
series_key_eq a b = kind_eq a.kind b.kind && key_eq a.key b.key

-- the order of labels: the key's bytes, then the value's
abbrev pub label_cmp : List ℕ × List ℕ → List ℕ × List ℕ → Ordering
label_cmp = then_cmp (on (λ l. l.0) (slice_cmp nat_cmp)) (on (λ l. l.1) (slice_cmp nat_cmp))

-- the same labels in order: by name, then by value
pub record AreOrdered (labels ordered : List LabelParts) : Type 0 where
  pub same : IsPermutation labels ordered
  pub sorted : IsSorted label_cmp ordered

-- the order of keys: the name's bytes, then the labels, one after another; a list is less than each longer one that begins with it
abbrev pub key_cmp : KeyParts → KeyParts → Ordering
key_cmp = then_cmp (on (λ k. k.name) (slice_cmp nat_cmp)) (on (λ k. k.labels) (slice_cmp label_cmp))

-- the order of composite keys: the kind, then the key
abbrev pub series_key_cmp : SeriesKey → SeriesKey → Ordering
series_key_cmp = then_cmp (on (λ k. kind_number k.kind) nat_cmp) (on (λ k. k.key) key_cmp)
