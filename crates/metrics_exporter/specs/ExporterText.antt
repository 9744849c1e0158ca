-- The text of series.
use Rattle.std.specs.Prelude.{◌≡◌, ℕ, ℤ, List, [], ◌∷◌, ◌++◌, codes, decimal, Option, None, Some}
use Rattle.std.specs.Fmt.{signed_decimal}
use Rattle.std.specs.List.{flat_map}
use Rattle.metrics_names.specs.Names.{SeriesKey, kind_word, name_word, label_words}
use Rattle.metrics_exporter.specs.Exporting.{Reading, count, level, samples, Cell, Cells, AreSeries}

-- for each bound the bound, and the number of samples at most it
abbrev pub bucket_words : List (ℤ × ℕ) → List ℕ
bucket_words buckets = flat_map (λ b. codes " le " ++ (signed_decimal b.0 ++ 32 ∷ decimal b.1)) buckets

abbrev pub reading_words : Reading → List ℕ
reading_words (count n) = codes " value " ++ decimal n
reading_words (level n) = codes " value " ++ signed_decimal n
reading_words (samples d) = codes " count " ++ (decimal d.count ++ (codes " sum " ++ (signed_decimal d.sum ++ bucket_words d.buckets)))

abbrev pub cell_words : Option Cell → List ℕ
cell_words None = []
cell_words (Some c) = reading_words c.reading

-- the line of a series: kind, name, labels and value
abbrev pub series_line : SeriesKey → Option Cell → List ℕ
series_line s cell = kind_word s.kind ++ (32 ∷ (name_word s.key.name ++ (label_words s.key.labels ++ (cell_words cell ++ 10 ∷ []))))

abbrev pub series_text : Cells → List SeriesKey → List ℕ
series_text cells keys = flat_map (λ s. series_line s (cells s)) keys

-- a text has the line of each held series, in composite key order
pub record IsText (cells : Cells) (text : List ℕ) : Type 0 where
  pub keys : List SeriesKey
  pub series : AreSeries cells keys
  pub lines : text ≡ series_text cells keys
