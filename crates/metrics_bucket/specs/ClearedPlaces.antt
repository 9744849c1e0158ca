-- What a clear has done once it left.
use Rattle.std.specs.Prelude.{◌≡◌, ℕ, [], ◌∷◌, length, replicate}
use Rattle.metrics_bucket.specs.declared.view.View.{View}
use Rattle.metrics_bucket.specs.declared.view.Walk.{Walk}
use Rattle.metrics_bucket.specs.declared.view.Hold.TheVariants.{Nothing, Clearing}
use Rattle.metrics_bucket.specs.declared.view.Visit.TheVariants.{Unseen}
use Rattle.metrics_bucket.specs.History.{turn_at}
use Rattle.metrics_bucket.specs.Places.{Reaches}
use Rattle.metrics_bucket.specs.Steps.{Seated}
use Rattle.metrics_bucket.specs.BucketState.{holds_as, with_taken}

-- a clear of this epoch that left, which had claimed the turn after so many walks
abbrev pub has_taken : View → ℕ → Walk → View
has_taken v n walk = with_taken (holds_as v walk.epoch n Nothing) walk

-- a clear that claimed the turn and took this side, of which so many places were given
abbrev pub IsSideTaken : Seated → ℕ → ℕ → Seated → Type 0
IsSideTaken m side given m' = (e n : ℕ) × (m' ≡ (holds_as m.0 e n (Clearing side (replicate given Unseen)), (0, turn_at n) ∷ [])) × Reaches m.0.pushed e given × (m.0.weight ≡ 1024 → e ≡ length m.0.taken)
