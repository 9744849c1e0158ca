-- Labels as they are written, and lines that begin alike: those of a histogram's buckets, and of samples with one first label's key.
use Rattle.std.specs.Prelude.{ℕ, List, ◌∷◌, ◌≡◌, ◌++◌, flat_map, codes, decimal}
use Rattle.metrics_names.specs.Names.{LabelParts}
use Rattle.metrics_exposition.specs.Names.{escaped}
use Rattle.metrics_exposition.specs.Samples.{sample_line, bucket_sample}

-- NAME="VALUE: a label up to the quote that ends it
abbrev pub open_text : LabelParts → List ℕ
open_text l = l.0 ++ (codes "=\"" ++ escaped l.1)

-- such a label after the end of the one before
abbrev pub more_text : LabelParts → List ℕ
more_text l = codes "\"," ++ open_text l

-- labels with a comma after each
abbrev pub with_commas : List LabelParts → List ℕ
with_commas labels = flat_map (λ l. open_text l ++ codes "\",") labels

-- NAME{KEY=": what comes before the value of a sample's first label
abbrev pub sample_head : List ℕ → List ℕ → List ℕ
sample_head name key = name ++ (codes "{" ++ (key ++ codes "=\""))

-- the line of a sample after its head, with the first label's value and more labels, which is that of its sample
abbrev pub headed_line : List ℕ → List ℕ → List LabelParts → List ℕ → List ℕ
headed_line head first more value = head ++ (escaped first ++ (flat_map more_text more ++ (codes "\"} " ++ (value ++ codes "\n"))))

abbrev pub HeadedLineIsThatOfItsSample : Type 0
HeadedLineIsThatOfItsSample = (name : List ℕ) (l : LabelParts) (more : List LabelParts) (value : List ℕ)
    → headed_line (sample_head name l.0) l.1 more value ≡ sample_line (record { name = name; labels = l ∷ more; value = value })

-- NAME_bucket{LABELS,le=": what comes before a bucket's bound
abbrev pub bucket_head : List ℕ → List LabelParts → List ℕ
bucket_head name labels = name ++ (codes "_bucket{" ++ (with_commas labels ++ codes "le=\""))

-- the line of a bucket after its head, which is that of its sample
abbrev pub bucket_line : List ℕ → List ℕ → ℕ → List ℕ
bucket_line head bound n = head ++ (escaped bound ++ (codes "\"} " ++ (decimal n ++ codes "\n")))

abbrev pub BucketLineIsThatOfItsSample : Type 0
BucketLineIsThatOfItsSample = (name : List ℕ) (labels : List LabelParts) (bound : List ℕ) (n : ℕ)
    → bucket_line (bucket_head name labels) bound n ≡ sample_line (bucket_sample name labels bound n)
