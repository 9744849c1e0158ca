-- The patterns of a filter layer, and when a layer fails.
use Rattle.std.specs.Prelude.{if◌then◌else◌, ℕ, Bool, nat_lt, List, [], ◌∷◌, ◌++◌, length, Option, Some, None}
use Rattle.std.specs.List.{sum_by}
use Rattle.prefix_match.specs.Substring.{Patterns, pattern_limit}
use Rattle.metrics.specs.declared.error.Error.{Error}
use Rattle.metrics.specs.declared.error.Error.TheVariants.{PatternsTooLong}

abbrev pub with_pattern : Patterns → List ℕ → Patterns
with_pattern s p = record s { listed = s.listed ++ p ∷ [] }

abbrev pub with_folding : Patterns → Bool → Patterns
with_folding s fold = record s { fold_case = fold }

abbrev pub with_table : Patterns → Bool → Patterns
with_table s table = record s { table = table }

-- making a filter fails, with any memory, if its patterns have more bytes together than the limit
abbrev pub fault_of : Patterns → Option Error
fault_of s = if nat_lt pattern_limit (sum_by length s.listed) then Some PatternsTooLong else None
