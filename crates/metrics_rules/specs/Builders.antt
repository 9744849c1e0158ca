-- What the builders have.
use Rattle.std.specs.Prelude.{◌≡◌, ℕ, List, [], ◌∷◌, ◌++◌}
use Rattle.metrics.specs.Meaning.{Meaning}
use Rattle.metrics.specs.Layers.{Route}
use Rattle.metrics_rules.specs.Branches.{meanings, all_meanings}
use Rattle.metrics_rules.specs.Routing.{AreTablesOf}
use Rattle.metrics_rules.specs.declared.fanout.FanoutBuilder.{FanoutBuilder}
use Rattle.metrics_rules.specs.declared.router.RouterBuilder.{RouterBuilder}

-- the branches of a fanout's builder, in the order in which they were added
abbrev pub fanout_branches : FanoutBuilder → List Meaning
fanout_branches b = meanings b.branches.children.items

-- the branches of a router's builder: the default, and then the targets by number
abbrev pub router_branches : RouterBuilder → List Meaning
router_branches b = all_meanings b.default.node b.branches.children.items

-- the routes of a router's builder are these, in the order in which they were added
abbrev pub HasRoutes : RouterBuilder → List Route → Type 0
HasRoutes b routes = AreTablesOf b.routes routes

-- one route more, at the end
abbrev pub GainsRoute : RouterBuilder → RouterBuilder → ℕ → List ℕ → ℕ → Type 0
GainsRoute old new mask pattern target =
    (rs : List Route) → HasRoutes old rs →
    HasRoutes new (rs ++ record { mask = mask; pattern = pattern; target = target } ∷ [])

-- the same branches and routes
abbrev pub IsUnchanged : RouterBuilder → RouterBuilder → Type 0
IsUnchanged old new = (router_branches new ≡ router_branches old) × (new.routes ≡ old.routes)
