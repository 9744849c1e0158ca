-- What the words `export S M T B` ask for, and the status at its end.
use Rattle.std.specs.Prelude.{◌≡◌, ℕ, List, ◌∷◌, codes, Result, Ok, Err}
use Rattle.tool_grammar.specs.declared.error.RunError.{RunError}
use Rattle.tool_export.specs.declared.plans.ExportPlan.{ExportPlan}
use Rattle.tool_export.specs.Plans.{IsAllowed, plan_words, setup_of}
use Rattle.tool_stream.specs.Answering.{status_number}
use Rattle.tool_export.specs.Exporting.{IsExport}

-- the words ask for an exporter of this plan
abbrev pub AsksExport : List (List ℕ) → ExportPlan → Type 0
AsksExport words plan = IsAllowed plan × (words ≡ codes "export" ∷ plan_words plan)

-- the status at the end
abbrev pub end_status : Result ℕ RunError → ℕ
end_status (Ok n) = 0
end_status (Err e) = status_number e

-- the lines of an exporter were answered, and the status reports how that ended
abbrev pub EndsExport : ExportPlan → Type 0 → (List ℕ → Type 0) → (List ℕ → Type 0) → ℕ → Type 0
EndsExport plan at_end Reads Writes status = (read text : List ℕ) × (r : Result ℕ RunError)
    × Reads read × Writes text × IsExport (setup_of plan) at_end read text r × (status ≡ end_status r)
