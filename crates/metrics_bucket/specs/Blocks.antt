-- The order in which a bucket returns its values.
use Rattle.std.specs.Prelude.{◌≡◌, ℕ, ◌+◌, List, length, map, reverse}
use Rattle.metrics.specs.Book.{chunks, blocks}
use Rattle.metrics_bucket.specs.declared.view.Push.{Push}
use Rattle.metrics_bucket.specs.declared.view.Walk.{Walk}
use Rattle.metrics_bucket.specs.Facts.{weigh, weigh_pushes, weigh_walks}
use Rattle.metrics_bucket.specs.Places.{Covers}
use Rattle.metrics_bucket.specs.BucketState.{walk}

-- the values of the pushes since the last take, in the bucket's order by their places: what was pushed is what was taken,
-- together with these
abbrev pub Settled : {T : Type 0} → (ℕ → T) → List Push → List Walk → List T → Type 0
Settled {T} value pushed taken given = (vs : List ℕ) × (given ≡ map value (blocks vs)) × ((h : ℕ → ℕ) → weigh_pushes h pushed ≡ weigh h (blocks vs) + weigh_walks h taken) × Covers pushed (walk (length taken) vs)

-- the list's chunks of 64, the newest first
abbrev pub newest_first : List ℕ → List (List ℕ)
newest_first vs = reverse (chunks vs)

-- the chunks as values
abbrev pub valued : {T : Type 0} → (ℕ → T) → List (List ℕ) → List (List T)
valued value xss = map (map value) xss
