-- Sets of kinds as words.
use Rattle.std.specs.Prelude.{ℕ, ◌<◌, ◌≤◌, Bool, true, false, List, [], ◌++◌, codes}
use Rattle.metrics_names.specs.declared.kind.MetricKind.TheVariants.{Counter, Gauge, Histogram}
use Rattle.metrics.specs.Layers.{mask_has}

abbrev pub letter : Bool → List ℕ → List ℕ
letter false word = []
letter true word = word

-- a letter for each kind of a mask, in this order
abbrev pub kinds_word : ℕ → List ℕ
kinds_word mask = letter (mask_has Counter mask) (codes "c") ++ (letter (mask_has Gauge mask) (codes "g") ++ letter (mask_has Histogram mask) (codes "h"))

-- a mask with one kind at least
abbrev pub HasKind : ℕ → Type 0
HasKind mask = (0 < mask) × (mask ≤ 7)
