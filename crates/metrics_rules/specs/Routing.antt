-- The routes of a router, as they are stored.
use Rattle.std.specs.Prelude.{if◌then◌else◌, ◌≡◌, ℕ, zero, suc, ◌&&◌, List, [], ◌∷◌, length, take, Option, None, Some}
use Rattle.std.specs.Option.{option_or}
use Rattle.std.specs.Str.{bytes_eq}
use Rattle.metrics_names.specs.declared.kind.MetricKind.{MetricKind}
use Rattle.metrics.specs.declared.kind.PerKind.{PerKind}
use Rattle.metrics.specs.Kinds.{of_kind}
use Rattle.metrics.specs.Layers.{Route, mask_has}
use Rattle.prefix_match.specs.TriePatterns.{stored}

-- the patterns that are stored for each kind, each with its target
abbrev pub RouteTables : Type 0
RouteTables = PerKind (List (List ℕ × ℕ))

abbrev pub no_routes : RouteTables
no_routes = record { counter = []; gauge = []; histogram = [] }

-- the target of the longest stored prefix of a name with at most n bytes
abbrev pub longest_within : List (List ℕ × ℕ) → List ℕ → ℕ → Option ℕ
longest_within pairs name zero = stored pairs []
longest_within pairs name (suc n) =
    option_or (stored pairs (take (suc n) name)) (longest_within pairs name n)

-- the target of the longest stored pattern that a name begins with
abbrev pub target_of : RouteTables → MetricKind → List ℕ → Option ℕ
target_of tables kind name = longest_within (of_kind kind tables) name (length name)

-- the number of a target's branch among a router's: the default is number 0, the targets follow it
abbrev pub branch_of : Option ℕ → ℕ
branch_of None = 0
branch_of (Some target) = suc target

-- a route more: one look-up changes, for the kinds of its mask
abbrev pub AddsRoute : RouteTables → RouteTables → ℕ → List ℕ → ℕ → Type 0
AddsRoute old new mask pattern target =
    (kind : MetricKind) (p : List ℕ) →
    stored (of_kind kind new) p ≡
    (if mask_has kind mask && bytes_eq p pattern then Some target else stored (of_kind kind old) p)

-- the target of the last route with the kind and this very pattern
abbrev pub last_target : List Route → MetricKind → List ℕ → Option ℕ
last_target [] kind p = None
last_target (r ∷ routes) kind p =
    option_or (last_target routes kind p)
    (if mask_has kind r.mask && bytes_eq p r.pattern then Some r.target else None)

-- what is stored is, for each kind and pattern, the target of the last route that has both
abbrev pub AreTablesOf : RouteTables → List Route → Type 0
AreTablesOf tables routes =
    (kind : MetricKind) (p : List ℕ) → stored (of_kind kind tables) p ≡ last_target routes kind p
