-- What the words of a command line ask for, and what the program writes for it.
use Rattle.std.specs.Prelude.{◌≡◌, ℕ, ◌-◌, ◌*◌, ◌<◌, ◌≤◌, List, [], ◌∷◌, ◌++◌, ◌⊎◌}
use Rattle.std.specs.Prelude.{codes, decimal, Result, OnOk}
use Rattle.tool_storm.specs.declared.totals.Totals.{Totals}
use Rattle.tool_storm.specs.Numbers.{sum_below}
use Rattle.tool_storm.specs.Texts.{totals_text}
use Rattle.tool_grammar.specs.declared.error.RunError.{RunError}
use Rattle.tool_stream.specs.Answering.{status_number}
use Rattle.tool_lines.specs.Running.{PrintsAnswers}
use Rattle.tool_lines.specs.declared.requests.StormPlan.{StormPlan}
use Rattle.tool_lines.specs.declared.requests.Request.{Request}
use Rattle.tool_lines.specs.declared.requests.Request.TheVariants.{Run, Storm, GrowingStorm}

-- ---- words

-- the numbers that a storm allows
abbrev pub IsAllowedPlan : StormPlan → Type 0
IsAllowedPlan plan = (0 < plan.pushers) × (plan.pushers ≤ 64) × (plan.values ≤ 1000000) × (0 < plan.blocks) × (plan.blocks ≤ 1024)

-- the words are its numbers
abbrev pub IsPlanOf : List ℕ → List ℕ → List ℕ → StormPlan → Type 0
IsPlanOf pushers values blocks plan = (pushers ≡ decimal plan.pushers) × (values ≡ decimal plan.values) × (blocks ≡ decimal plan.blocks)

abbrev pub IsAllowed : Request → Type 0
IsAllowed Run = Unit {0}
IsAllowed (Storm plan) = IsAllowedPlan plan
IsAllowed (GrowingStorm plan) = IsAllowedPlan plan

-- the words of a request
abbrev pub request_words : Request → List (List ℕ)
request_words Run = codes "run" ∷ []
request_words (Storm plan) = codes "storm" ∷ decimal plan.pushers ∷ decimal plan.values ∷ decimal plan.blocks ∷ []
request_words (GrowingStorm plan) = codes "storm" ∷ decimal plan.pushers ∷ decimal plan.values ∷ decimal plan.blocks ∷ codes "grow" ∷ []

-- the words ask for this
abbrev pub Asks : List (List ℕ) → Request → Type 0
Asks words asked = IsAllowed asked × (words ≡ request_words asked)

-- the words ask for a storm
abbrev pub AsksStorm : List (List ℕ) → StormPlan → Type 0
AsksStorm words plan = Asks words (Storm plan) ⊎ Asks words (GrowingStorm plan)

-- ---- what is written

-- the totals of a storm of so many pushers, each of which pushes the numbers below values
pub record IsStorm (pushers values : ℕ) (t : Totals) : Type 0 where
  pub stopped : t.stopped ≤ pushers
  pub pushed : t.pushed ≡ ((pushers - t.stopped) * values, (pushers - t.stopped) * sum_below values)
  pub found : t.found ≡ t.pushed

-- the text is that of the totals of such a storm
abbrev pub PrintsTotals : StormPlan → List ℕ → Type 0
PrintsTotals plan text = (t : Totals) × IsStorm plan.pushers plan.values t × (text ≡ totals_text t)

abbrev pub Prints : Request → List ℕ → Type 0
Prints Run text = PrintsAnswers text
Prints (Storm plan) text = PrintsTotals plan text
Prints (GrowingStorm plan) text = PrintsTotals plan text

-- What was written is a text that may be printed; where something failed, a beginning of one.
abbrev pub Begins : {A : Type 0} → (List ℕ → Type 0) → (List ℕ → Type 0) → Result A RunError → Type 0
Begins Print Writes r = (text more : List ℕ) × Writes text × Print (text ++ more) × OnOk r (more ≡ [])

-- memory or the device failed, and no line was bad
abbrev pub IsFault : RunError → Type 0
IsFault e = status_number e ≡ 1
