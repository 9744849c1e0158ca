-- What a reading walk has done once it looked or left.
use Rattle.std.specs.Prelude.{◌≡◌, ℕ, [], ◌/◌, ◌%◌, replicate}
use Rattle.metrics_bucket.specs.declared.view.View.{View}
use Rattle.metrics_bucket.specs.declared.view.Walk.{Walk}
use Rattle.metrics_bucket.specs.declared.view.Hold.TheVariants.{Nothing, Reading}
use Rattle.metrics_bucket.specs.declared.view.Visit.TheVariants.{Unseen}
use Rattle.metrics_bucket.specs.BucketState.{holds_as, with_read}
use Rattle.metrics_bucket.specs.Steps.{Seated}

-- a reading walk of this epoch that left, which had claimed the turn after so many walks
abbrev pub has_read : View → ℕ → Walk → View
has_read v n walk = with_read (holds_as v walk.epoch n Nothing) walk

-- a reading walk that claimed the turn and looked at the control word
abbrev pub looked_to_read : View → ℕ → ℕ → ℕ → View
looked_to_read v epoch n control = holds_as v epoch n (Reading (control % 2) (replicate (control / 2) Unseen))

-- nothing was noted and nothing is held, perhaps after a claim
abbrev pub IsFree : Seated → Seated → Type 0
IsFree m m' = (e : ℕ) × (n : ℕ) × (m' ≡ (holds_as m.0 e n Nothing, []))
