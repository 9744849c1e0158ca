-- The plan that the words after `export` describe.
use Rattle.std.specs.Prelude.{◌≡◌, ℕ, ◌<◌, ◌≤◌, ◌^◌, ℤ, true, List, [], ◌∷◌}
use Rattle.std.specs.Prelude.{codes, decimal, length, Option, None, Some, IfSome, FitsSigned}
use Rattle.std.specs.Int.{w64}
use Rattle.std.specs.List.{AllByRecursion}
use Rattle.metrics.specs.Layers.{mask_has}
use Rattle.metrics_registry.specs.Held.{is_shard_count}
use Rattle.metrics_exporter.specs.Exporting.{Setup}
use Rattle.metrics_names.specs.Names.{name_word}
use Rattle.tool_grammar.specs.Kinds.{kinds_word}
use Rattle.tool_grammar.specs.Printing.{samples_text}
use Rattle.tool_export.specs.declared.plans.ExportPlan.{ExportPlan}

-- how the exporter of a plan is made
abbrev pub setup_of : ExportPlan → Setup
setup_of plan = record { bounds = λ unit name. plan.bounds; rules = record { timeout = plan.idle_timeout; mask = λ kind. mask_has kind plan.watched } }

-- a letter for each kind, or a dash for none
abbrev pub watched_word : ℕ → List ℕ
watched_word kinds = name_word (kinds_word kinds)

-- a number, or a dash for none
abbrev pub timeout_word : Option ℕ → List ℕ
timeout_word None = codes "-"
timeout_word (Some n) = decimal n

-- the numbers are in range
abbrev pub AreSamples : List ℤ → Type 0
AreSamples ns = (0 < length ns) × AllByRecursion (FitsSigned w64) ns

-- the shards are a power of two from 1 to 1,024, and there is a bound
abbrev pub IsAllowed : ExportPlan → Type 0
IsAllowed plan = (is_shard_count plan.shards ≡ true) × (plan.watched ≤ 7) × IfSome plan.idle_timeout (λ n. n < 2 ^ 64)
    × AreSamples plan.bounds

-- shards, mask, timeout, and the bounds with a comma between two
abbrev pub plan_words : ExportPlan → List (List ℕ)
plan_words plan =
    decimal plan.shards ∷ watched_word plan.watched ∷ timeout_word plan.idle_timeout ∷ samples_text plan.bounds ∷ []
