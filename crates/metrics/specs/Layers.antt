-- What the layers mean: prefixed, filtered and routed targets, and books numbered after one another.
use Rattle.std.specs.Prelude.{if◌then◌else◌, ◌≡◌, ℕ, zero, suc, ◌/◌, ◌%◌, ◌≤◌, Bool, true, false, ◌&&◌, ◌||◌, List, [], ◌∷◌, ◌++◌, length, Option, None, Some, IsTrue, Contains, nat_eq, nat_le, slice_get}
use Rattle.std.specs.List.{starts_with, list_any}
use Rattle.std.specs.Str.{str_to_ascii_lowercase}
use Rattle.std.proofs.Common.{length-append}
use Rattle.metrics_names.specs.declared.kind.MetricKind.{MetricKind}
use Rattle.metrics_names.specs.declared.kind.MetricKind.TheVariants.{Counter, Gauge, Histogram}
use Rattle.metrics.specs.Targets.{raise, AllBelow, AreDistinct}
use Rattle.metrics.specs.TargetsLaws.{below_joined, distinct_joined, below_more, below_raise, distinct_raise}
use Rattle.metrics.specs.Meaning.{Meaning, nothing}

-- ---- prefix

abbrev pub dotted : List ℕ → List ℕ → List ℕ
dotted front name = front ++ 46 ∷ name

-- a prefix layer has at a name the inner targets at prefix, dot, name
abbrev pub prefixed : List ℕ → Meaning → Meaning
prefixed front a = record {
  contents = a.contents;
  targets = λ kind name. a.targets kind (dotted front name);
  below = λ kind name. a.below kind (dotted front name);
  distinct = λ kind name. a.distinct kind (dotted front name);
}

-- ---- filter

-- with ASCII letters lowered, if that is set; nothing else is folded
abbrev pub folded : Bool → List ℕ → List ℕ
folded fold name = if fold then str_to_ascii_lowercase name else name

-- there are a and b such that text = a, pattern, b
abbrev pub IsSubstring : List ℕ → List ℕ → Type 0
IsSubstring pattern text = (a : List ℕ) × (b : List ℕ) × (text ≡ a ++ pattern ++ b)

-- a name that some listed pattern is a substring of
abbrev pub Matches : Bool → List (List ℕ) → List ℕ → Type 0
Matches fold patterns name = (p : List ℕ) × Contains patterns p × IsSubstring (folded fold p) (folded fold name)

-- the test of it; a law says that it decides `Matches`
abbrev pub is_substring : List ℕ → List ℕ → Bool
is_substring pattern [] = starts_with nat_eq [] pattern
is_substring pattern (x ∷ text) = starts_with nat_eq (x ∷ text) pattern || is_substring pattern text

abbrev pub matches : Bool → List (List ℕ) → List ℕ → Bool
matches fold patterns name = list_any (λ p. is_substring (folded fold p) (folded fold name)) patterns

pub below_unless : (b : Bool) (k : ℕ) (ts : List (ℕ × List ℕ)) → AllBelow k ts → AllBelow k (if b then [] else ts)
below_unless true k ts h = tt
below_unless false k ts h = h

pub distinct_unless : (b : Bool) (ts : List (ℕ × List ℕ)) → AreDistinct ts → AreDistinct (if b then [] else ts)
distinct_unless true ts h = tt
distinct_unless false ts h = h

-- a filter has no targets at a name that matches, and else the inner ones
abbrev pub filtered : Bool → List (List ℕ) → Meaning → Meaning
filtered fold patterns a = record {
  contents = a.contents;
  targets = λ kind name. if matches fold patterns name then [] else a.targets kind name;
  below = λ kind name. below_unless (matches fold patterns name) (length a.contents) (a.targets kind name) (a.below kind name);
  distinct = λ kind name. distinct_unless (matches fold patterns name) (a.targets kind name) (a.distinct kind name);
}

-- ---- several recorders

-- one recorder beside another: its books are numbered after the other's
abbrev pub joined : Meaning → Meaning → Meaning
joined a b = record {
  contents = a.contents ++ b.contents;
  targets = λ kind name. a.targets kind name ++ raise (length a.contents) (b.targets kind name);
  below = λ kind name. below_joined a.contents b.contents (a.targets kind name) (b.targets kind name) (a.below kind name) (b.below kind name);
  distinct = λ kind name. distinct_joined (length a.contents) (a.targets kind name) (b.targets kind name) (a.below kind name) (a.distinct kind name) (b.distinct kind name);
}

-- a fanout: all children, each next to those before it
abbrev pub joined_all : List Meaning → Meaning
joined_all [] = nothing
joined_all (a ∷ rest) = joined a (joined_all rest)

-- the targets of one of several recorders, by the places of its books among all
abbrev pub targets_of : ℕ → List Meaning → MetricKind → List ℕ → List (ℕ × List ℕ)
targets_of w [] kind name = []
targets_of zero (a ∷ rest) kind name = a.targets kind name
targets_of (suc w) (a ∷ rest) kind name = raise (length a.contents) (targets_of w rest kind name)

pub below_of : (w : ℕ) (all : List Meaning) (kind : MetricKind) (name : List ℕ) → AllBelow (length (joined_all all).contents) (targets_of w all kind name)
below_of w [] kind name = tt
below_of zero (a ∷ rest) kind name = rw (length-append a.contents (joined_all rest).contents) (below_more (length a.contents) (length (joined_all rest).contents) (a.targets kind name) (a.below kind name))
below_of (suc w) (a ∷ rest) kind name =
    rw (length-append a.contents (joined_all rest).contents) (below_raise (length a.contents) (length (joined_all rest).contents) (targets_of w rest kind name) (below_of w rest kind name))

pub distinct_of : (w : ℕ) (all : List Meaning) (kind : MetricKind) (name : List ℕ) → AreDistinct (targets_of w all kind name)
distinct_of w [] kind name = tt
distinct_of zero (a ∷ rest) kind name = a.distinct kind name
distinct_of (suc w) (a ∷ rest) kind name = distinct_raise (length a.contents) (targets_of w rest kind name) (distinct_of w rest kind name)

-- ---- routes

-- whether a mask has a kind: bit 0 is for counters, bit 1 for gauges, bit 2 for histograms
abbrev pub mask_has : MetricKind → ℕ → Bool
mask_has Counter mask = nat_eq (mask % 2) 1
mask_has Gauge mask = nat_eq (mask / 2 % 2) 1
mask_has Histogram mask = nat_eq (mask / 4 % 2) 1

-- a route: its kinds, the prefix of its names, its target
pub record Route : Type 0 where
  pub mask : ℕ
  pub pattern : List ℕ
  pub target : ℕ

-- a route fits if its mask has the kind, and its pattern is a prefix of the name
abbrev pub fits : MetricKind → List ℕ → Route → Bool
fits kind name r = mask_has kind r.mask && starts_with nat_eq name r.pattern

-- no route fits
abbrev pub NoneFits : List Route → MetricKind → List ℕ → Type 0
NoneFits routes kind name = (i : ℕ) (r : Route) → slice_get routes i ≡ Some r → fits kind name r ≡ false

-- the winner: a fitting route such that no fitting route has a longer pattern, and no later one has the same
pub record IsWinner (routes : List Route) (kind : MetricKind) (name : List ℕ) (r : Route) : Type 0 where
  pub at : ℕ
  pub stands : slice_get routes at ≡ Some r
  pub fitting : IsTrue (fits kind name r)
  pub longest : (i : ℕ) (other : Route) → slice_get routes i ≡ Some other → IsTrue (fits kind name other) → length other.pattern ≤ length r.pattern
  pub last : (i : ℕ) (other : Route) → slice_get routes i ≡ Some other → IsTrue (fits kind name other) → other.pattern ≡ r.pattern → i ≤ at

-- the better of the best so far and a later route
abbrev pub better : MetricKind → List ℕ → Option Route → Route → Option Route
better kind name None r = if fits kind name r then Some r else None
better kind name (Some best) r = if fits kind name r && nat_le (length best.pattern) (length r.pattern) then Some r else Some best

abbrev pub winner_from : MetricKind → List ℕ → Option Route → List Route → Option Route
winner_from kind name best [] = best
winner_from kind name best (r ∷ routes) = winner_from kind name (better kind name best r) routes

-- the winner as it is found; a law says that it is one
abbrev pub winner : List Route → MetricKind → List ℕ → Option Route
winner routes kind name = winner_from kind name None routes

-- the recorder that a name goes to: the default is number 0, the targets follow it
abbrev pub chosen : Option Route → ℕ
chosen None = 0
chosen (Some r) = suc r.target

-- one of several recorders for each kind and name. The books are those of all, each recorder's after those before it
abbrev pub choosing : (MetricKind → List ℕ → ℕ) → List Meaning → Meaning
choosing number all = record {
  contents = (joined_all all).contents;
  targets = λ kind name. targets_of (number kind name) all kind name;
  below = λ kind name. below_of (number kind name) all kind name;
  distinct = λ kind name. distinct_of (number kind name) all kind name;
}

-- a router has the winner's target's list, or the default's if no route fits. Its books are the default's, then the targets'
abbrev pub routed : List Route → List Meaning → Meaning
routed routes all = choosing (λ kind name. chosen (winner routes kind name)) all
