-- Samples as runs of equal ones.
use Rattle.std.specs.Prelude.{◌≡◌, ℕ, ◌<◌, ℤ, List, replicate}
use Rattle.std.specs.List.{flat_map}
use Rattle.metrics_storage.specs.Histogram.{Distribution, no_samples, with_samples, bounds_of}

-- how many samples, and the value of each
abbrev pub Run : Type 0
Run = ℕ × ℤ

abbrev pub samples_in : List Run → List ℤ
samples_in runs = flat_map (λ r. replicate r.0 r.1) runs

-- samples with the counts and the sum of a histogram that has some
abbrev pub AreSamplesOf : List Run → Distribution → Type 0
AreSamplesOf runs d = (0 < d.count) × (d ≡ with_samples (samples_in runs) (no_samples (bounds_of d)))
