-- Samples, and the line of each.
use Rattle.std.specs.Prelude.{ℕ, List, [], ◌∷◌, ◌++◌, map, codes, flat_map, decimal}
use Rattle.metrics_names.specs.Names.{LabelParts}
use Rattle.metrics_storage.specs.Histogram.{Distribution, ascending}
use Rattle.metrics_exposition.specs.Names.{escaped}
use Rattle.metrics_exposition.specs.Numbers.{number}

-- a name, labels and a value
pub record Sample : Type 0 where
  pub name : List ℕ
  pub labels : List LabelParts
  pub value : List ℕ

-- ---- the line of a sample

-- NAME="VALUE"
abbrev pub label_text : LabelParts → List ℕ
label_text l = l.0 ++ (codes "=\"" ++ (escaped l.1 ++ codes "\""))

-- a comma is between labels
abbrev pub joined : List LabelParts → List ℕ
joined [] = []
joined (l ∷ ls) = label_text l ++ flat_map (λ m. 44 ∷ label_text m) ls

-- labels are in braces, and none in nothing
abbrev pub labels_text : List LabelParts → List ℕ
labels_text [] = []
labels_text (l ∷ ls) = 123 ∷ (joined (l ∷ ls) ++ codes "}")

-- NAME{LABELS}: what comes before the value
abbrev pub series_text : Sample → List ℕ
series_text s = s.name ++ labels_text s.labels

-- NAME{LABELS} VALUE
abbrev pub sample_line : Sample → List ℕ
sample_line s = s.name ++ (labels_text s.labels ++ (32 ∷ (s.value ++ 10 ∷ [])))

abbrev pub lines : List Sample → List ℕ
lines samples = flat_map sample_line samples

-- ---- the samples of a histogram

-- the number of samples that are at most the bound
abbrev pub bucket_sample : List ℕ → List LabelParts → List ℕ → ℕ → Sample
bucket_sample name labels bound n = record { name = name ++ codes "_bucket"; labels = labels ++ (codes "le", bound) ∷ []; value = decimal n }

-- after the buckets one for all samples, their sum and their number
abbrev pub histogram_ends : ℕ → List ℕ → List LabelParts → Distribution → List Sample
histogram_ends places name labels d =
    bucket_sample name labels (codes "+Inf") d.count
    ∷ record { name = name ++ codes "_sum"; labels = labels; value = number places d.sum }
    ∷ record { name = name ++ codes "_count"; labels = labels; value = decimal d.count }
    ∷ []

-- a bucket for each bound, in ascending order, and these; bounds and the sum have the places, and numbers of samples none
abbrev pub histogram_samples : ℕ → List ℕ → List LabelParts → Distribution → List Sample
histogram_samples places name labels d = map (λ b. bucket_sample name labels (number places b.0) b.1) (ascending d.buckets) ++ histogram_ends places name labels d
