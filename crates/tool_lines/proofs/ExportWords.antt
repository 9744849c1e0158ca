-- Words that ask for an exporter.
use Rattle.std.proofs.Common.{◌≡◌, ℕ, List, [], ◌∷◌, ◌∙◌, sym, ap, codes, MatchResult, MatchOption}
use Rattle.std.specs.Prelude.{Result, Ok, Err, Option, Some, None}
use Rattle.tool_export.specs.declared.plans.ExportPlan.{ExportPlan}
use Rattle.tool_export.specs.Plans.{IsAllowed, plan_words}
use Rattle.tool_lines.specs.Exports.{AsksExport}

abbrev pub behind : List (List ℕ) → List (List ℕ)
behind [] = []
behind (w ∷ ws) = ws

-- what the four words after `export` ask for is what all of them ask for
pub asks_of : {E : Type 0} (r : Result (Option ExportPlan) E) (words four : List (List ℕ)) → words ≡ codes "export" ∷ four
    → MatchResult r (λ found. MatchOption found ((plan : ExportPlan) → IsAllowed plan → four ≡ plan_words plan → ⊥) (λ plan. IsAllowed plan × (four ≡ plan_words plan))) (λ e. (plan : ExportPlan) × IsAllowed plan × (four ≡ plan_words plan))
    → MatchResult r (λ found. MatchOption found ((plan : ExportPlan) → AsksExport words plan → ⊥) (λ plan. AsksExport words plan)) (λ e. (plan : ExportPlan) × AsksExport words plan)
asks_of (Ok None) words four are none = λ plan is. none plan is.0 (ap behind (sym are ∙ is.1))
asks_of (Ok (Some plan)) words four are is = (is.0, are ∙ ap (λ ws. codes "export" ∷ ws) is.1)
asks_of (Err e) words four are (plan, allowed, is) = (plan, (allowed, are ∙ ap (λ ws. codes "export" ∷ ws) is))
