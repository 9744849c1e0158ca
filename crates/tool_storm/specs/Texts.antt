-- A storm's totals as lines.
use Rattle.std.specs.Prelude.{ℕ, ℤ, List, [], ◌∷◌, ◌++◌, codes, decimal}
use Rattle.std.specs.Fmt.{signed_decimal}
use Rattle.tool_storm.specs.declared.totals.Totals.{Totals}

-- a number of values and their sum
abbrev pub pair_text : List ℕ → ℕ × ℕ → List ℕ
pair_text name pair = name ++ (32 ∷ (decimal pair.0 ++ (codes " sum " ++ (decimal pair.1 ++ 10 ∷ []))))

-- what the reservoir held, of how many values, and their sum
abbrev pub sampled_text : ℕ × ℕ × ℤ → List ℕ
sampled_text sampled = codes "sampled " ++ (decimal sampled.0 ++ (codes " of " ++ (decimal sampled.1 ++ (codes " sum " ++ (signed_decimal sampled.2 ++ 10 ∷ [])))))

-- three lines
abbrev pub totals_text : Totals → List ℕ
totals_text t = pair_text (codes "pushed") t.pushed ++ (pair_text (codes "found") t.found ++ sampled_text t.sampled)
