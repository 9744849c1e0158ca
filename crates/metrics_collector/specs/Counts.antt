-- What a look at a counter added to a reading.
use Rattle.std.specs.Prelude.{◌≡◌, ◌⊎◌, ℕ, List, [], ◌∷◌, ◌++◌, Option, IsSome}
use Rattle.metrics_names.specs.Names.{KeyParts}
use Rattle.metrics_counts.specs.Noted.{Noted}
use Rattle.metrics_counts.specs.Noting.{IsCountOf, IsIdle}
use Rattle.metrics_collector.specs.declared.gathered.Value.TheVariants as value
use Rattle.metrics_collector.specs.declared.gathered.GatheredSeries.{GatheredSeries}

-- a row with a count, which is the remainder of the total that is noted then, if there is a timeout
abbrev pub IsCountRow : Option ℕ → KeyParts → Option Noted → List GatheredSeries → List GatheredSeries → Type 0
IsCountRow timeout key new before after =
    (count : ℕ) × (after ≡ before ++ record { key = key; value = value.Count count } ∷ []) × (IsSome timeout → IsCountOf new count)

-- a row was added, or the counter is idle and no row was
abbrev pub IsLookedAt : Option ℕ → KeyParts → ℕ → Option Noted → Option Noted → List GatheredSeries → List GatheredSeries
    → Type 0
IsLookedAt timeout key now old new before after =
    IsCountRow timeout key new before after ⊎ (IsIdle timeout now old new × (after ≡ before))
