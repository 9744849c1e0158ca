-- Branches side by side, and when adding one fails.
use Rattle.std.specs.Prelude.{if◌then◌else◌, ℕ, ◌+◌, ◌≤◌, nat_eq, nat_lt, List, [], ◌∷◌, map, Vec, slice_index_or}
use Rattle.std.specs.Global.{Global}
use Rattle.std.specs.List.{All}
use Rattle.std.specs.Vec.{vec_len, vec_capacity}
use Rattle.metrics.specs.Meaning.{Meaning}
use Rattle.metrics_rules.specs.Nodes.{node_meaning, leaves_of, leaves_in, most_leaves, IsSound, IsSound-prop}
use Rattle.metrics.specs.declared.error.Error.{Error}
use Rattle.metrics.specs.declared.error.Error.TheVariants.{Memory, EmptyMask, NoSuchTarget, TooManyBooks}
use Rattle.metrics_rules.specs.declared.node.Node.{Node}

-- the meanings of several nodes
abbrev pub meanings : List Node → List Meaning
meanings nodes = map node_meaning nodes

-- what each of several nodes keeps is true
abbrev pub AreSound : List Node → Type 0
AreSound nodes = All IsSound nodes

pub AreSound-prop : (nodes : List Node) → IsProp (AreSound nodes)
AreSound-prop nodes = λ x y i k d lt. IsSound-prop (slice_index_or nodes k d) (x k d lt) (y k d lt) i

-- with one branch more there are few enough books
abbrev pub LeavesFit : List Meaning → Meaning → Type 0
LeavesFit all a = leaves_in all + leaves_of a ≤ most_leaves

-- why one branch more is rejected: for too many leaves exactly if there would be, and else for memory
abbrev pub refusal : List Meaning → Meaning → Error
refusal all a = if nat_lt most_leaves (leaves_in all + leaves_of a) then TooManyBooks else Memory

-- room for so many branches more
abbrev pub HasSpare : {T : Type 0} → ℕ → Vec T Global → Vec ℕ Global → Type 0
HasSpare n children starts =
    (vec_len children + n ≤ vec_capacity children) × (vec_len starts + n ≤ vec_capacity starts)

-- ---- routes

-- the branches of a router: the default alone while there are no children; else these, the default and then the targets
abbrev pub all_meanings : Node → List Node → List Meaning
all_meanings default [] = node_meaning default ∷ []
all_meanings default (c ∷ rest) = meanings (c ∷ rest)

-- why a route to one branch more is rejected: for a mask without kinds, else as the branch is
abbrev pub route_refusal : ℕ → List Meaning → Meaning → Error
route_refusal mask all a = if nat_eq mask 0 then EmptyMask else refusal all a

-- why a route to an earlier target is rejected: for a mask without kinds, else for a number that no target has, else for
-- memory
abbrev pub target_refusal : ℕ → ℕ → ℕ → Error
target_refusal mask target targets =
    if nat_eq mask 0 then EmptyMask else if nat_lt target targets then Memory else NoSuchTarget
