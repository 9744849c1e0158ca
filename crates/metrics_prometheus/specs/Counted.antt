-- Texts with the number of series that they leave out.
use Rattle.std.specs.Prelude.{ℕ, List, string_bytes}
use Rattle.metrics_prometheus.specs.declared.counted.CountedText.{CountedText}

abbrev pub counted_bytes : CountedText → List ℕ
counted_bytes counted = string_bytes counted.text
