-- What the builders have.
use Rattle.std.specs.Prelude.{◌≡◌, ℕ, List, [], ◌∷◌, ◌++◌, map}
use Rattle.metrics.specs.declared.recorder.Recorder as recorder
use Rattle.metrics.specs.Meaning.{Meaning}
use Rattle.metrics.specs.Layers.{Route}
use Rattle.metrics_rules.specs.Builders.{fanout_branches, router_branches, HasRoutes as RulesHaveRoutes}
use Rattle.metrics_trees.specs.Leaves.{recorders_of}
use Rattle.metrics_trees.specs.Over.{overs}
use Rattle.metrics_trees.specs.declared.fanout.FanoutBuilder.{FanoutBuilder}
use Rattle.metrics_trees.specs.declared.router.RouterBuilder.{RouterBuilder}

-- the recorders of a fanout's builder, in the order in which they were added
abbrev pub fanout_recorders : {B : Type 0} {r : recorder.Ghosts B} → FanoutBuilder B r → List Meaning
fanout_recorders {r = r} b = overs (fanout_branches b.rules) (map r.meaning (recorders_of b.leaves))

-- the recorders of a router's builder: the default, and then the targets by number
abbrev pub router_recorders : {B : Type 0} {r : recorder.Ghosts B} → RouterBuilder B r → List Meaning
router_recorders {r = r} b = overs (router_branches b.rules) (map r.meaning (recorders_of b.leaves))

-- the routes of a router's builder are these, in the order in which they were added
abbrev pub HasRoutes : {B : Type 0} {r : recorder.Ghosts B} → RouterBuilder B r → List Route → Type 0
HasRoutes b routes = RulesHaveRoutes b.rules routes

-- one route more, at the end
abbrev pub GainsRoute : {B : Type 0} {r : recorder.Ghosts B} → RouterBuilder B r → RouterBuilder B r → ℕ → List ℕ → ℕ → Type 0
GainsRoute old new mask pattern target =
    (rs : List Route) → HasRoutes old rs →
    HasRoutes new (rs ++ record { mask = mask; pattern = pattern; target = target } ∷ [])

-- the same recorders and routes
abbrev pub IsUnchanged : {B : Type 0} {r : recorder.Ghosts B} → RouterBuilder B r → RouterBuilder B r → Type 0
IsUnchanged old new = (router_recorders new ≡ router_recorders old) × (new.rules.routes ≡ old.rules.routes)
