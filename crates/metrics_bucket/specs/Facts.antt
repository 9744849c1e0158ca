-- The facts of the bucket's state.
use Rattle.std.specs.Prelude.{◌≡◌, ◌==◌, ℕ, zero, suc, ◌+◌, ◌%◌, ◌<◌, ◌≤◌, if◌then◌else◌, List, [], ◌∷◌, length, slice_index}
use mathlib.Core.Option.{some}
use lib.ListN.{get_elem?}
use Rattle.metrics_bucket.specs.declared.view.View.{View}
use Rattle.metrics_bucket.specs.declared.view.Push.{Push}
use Rattle.metrics_bucket.specs.declared.view.Walk.{Walk}
use Rattle.metrics_bucket.specs.declared.view.Hold.{Hold}
use Rattle.metrics_bucket.specs.declared.view.Hold.TheVariants.{Nothing, Ticket, Written, Claimed, SideKnown, Reading, Clearing, Settling}
use Rattle.metrics_bucket.specs.declared.view.Visit.{Visit}
use Rattle.metrics_bucket.specs.declared.view.Visit.TheVariants.{Marked, Read, Wiped}
use Rattle.metrics_bucket.specs.BucketState.{BucketState, total, other, place_index, live_values}

-- the weights of the items, added up
abbrev pub weigh : (ℕ → ℕ) → List ℕ → ℕ
weigh h [] = 0
weigh h (x ∷ xs) = h x + weigh h xs

-- the weights of the values of pushes
abbrev pub weigh_pushes : (ℕ → ℕ) → List Push → ℕ
weigh_pushes h [] = 0
weigh_pushes h (p ∷ ps) = h p.value + weigh_pushes h ps

-- the weights of the values of walks
abbrev pub weigh_walks : (ℕ → ℕ) → List Walk → ℕ
weigh_walks h [] = 0
weigh_walks h (walk ∷ walks) = weigh h walk.values + weigh_walks h walks

-- the weights of the values that have a mark
abbrev pub stands : (ℕ → ℕ) → List ℕ → List ℕ → ℕ
stands h [] ms = 0
stands h (x ∷ xs) [] = 0
stands h (x ∷ xs) (zero ∷ ms) = stands h xs ms
stands h (x ∷ xs) (suc m ∷ ms) = h x + stands h xs ms

abbrev pub wiped_visit : (ℕ → ℕ) → Visit → ℕ
wiped_visit h (Wiped x) = h x
wiped_visit h _ = 0

abbrev pub wiped_in : (ℕ → ℕ) → List Visit → ℕ
wiped_in h [] = 0
wiped_in h (c ∷ cs) = wiped_visit h c + wiped_in h cs

abbrev pub wiped : (ℕ → ℕ) → Hold → ℕ
wiped h (Clearing s visits) = wiped_in h visits
wiped h _ = 0

abbrev pub weight_of : View → ℕ
weight_of v = v.weight

abbrev pub pushed_of : (ℕ → ℕ) → View → ℕ
pushed_of h v = weigh_pushes h v.pushed

abbrev pub taken_of : (ℕ → ℕ) → View → ℕ
taken_of h v = weigh_walks h v.taken + wiped h v.hold

-- 1 if both are the same place
abbrev pub same : ℕ → ℕ → ℕ → ℕ → ℕ
same s i s' i' = if s == s' then (if i == i' then 1 else 0) else 0

-- 1 if i is below n
abbrev pub below : ℕ → ℕ → ℕ
below i zero = 0
below zero (suc n) = 1
below (suc i) (suc n) = below i n

-- 1 if the place has a ticket of the live side
abbrev pub given_at : ℕ → ℕ → ℕ → ℕ → ℕ
given_at live given s i = if s == live then below i given else 0

abbrev pub ticket_in : ℕ → ℕ → Hold → ℕ
ticket_in s i (Ticket s' i') = same s i s' i'
ticket_in s i (Written s' i' x) = same s i s' i'
ticket_in s i _ = 0

abbrev pub ticket_at : ℕ → ℕ → View → ℕ
ticket_at s i v = ticket_in s i v.hold

abbrev pub is_open : Visit → ℕ
is_open (Wiped x) = 0
is_open _ = 1

-- 1 if the place is still to be wiped
abbrev pub open_at : List Visit → ℕ → ℕ
open_at [] i = 0
open_at (c ∷ cs) zero = is_open c
open_at (c ∷ cs) (suc i) = open_at cs i

abbrev pub owed_in : ℕ → ℕ → Hold → ℕ
owed_in s i (Clearing s' visits) = if s == s' then open_at visits i else 0
owed_in s i _ = 0

abbrev pub owed_at : ℕ → ℕ → View → ℕ
owed_at s i v = owed_in s i v.hold

abbrev pub turn_in : Hold → ℕ
turn_in Claimed = 1
turn_in (SideKnown s) = 1
turn_in (Reading s visits) = 1
turn_in (Clearing s visits) = 1
turn_in _ = 0

abbrev pub turn_of : View → ℕ
turn_of v = turn_in v.hold

-- how many takes a thread made
abbrev pub took_in : Hold → ℕ
took_in (Clearing s visits) = 1
took_in _ = 0

abbrev pub took_of : View → ℕ
took_of v = length v.taken + took_in v.hold

abbrev pub VisitFits : ℕ → ℕ → Visit → Type 0
VisitFits mark x Marked = mark ≡ 1
VisitFits mark x (Read y) = (mark ≡ 1) × (x ≡ y)
VisitFits mark x _ = Unit {0}

abbrev pub VisitsFit : ℕ → BucketState → ℕ → List Visit → Type 0
VisitsFit places w s visits = (i : ℕ) (c : Visit) → get_elem? visits i ≡ some c → VisitFits (slice_index w.marks (place_index places s i)) (slice_index w.values (place_index places s i)) c

abbrev pub HoldFits : ℕ → ℕ → BucketState → ℕ → Hold → Type 0
HoldFits places all w weight Nothing = Unit {0}
HoldFits places all w weight (Ticket s i) = (s < 2) × (i < places)
HoldFits places all w weight (Written s i x) = (s < 2) × (i < places) × (slice_index w.values (place_index places s i) ≡ x)
HoldFits places all w weight Claimed = Unit {0}
HoldFits places all w weight (SideKnown s) = s ≡ w.live
HoldFits places all w weight (Reading s visits) = (s ≡ w.live) × (length visits ≤ w.given) × VisitsFit places w s visits × (weight ≡ all → length visits ≡ w.given)
HoldFits places all w weight (Clearing s visits) = (s ≡ other w.live) × (length visits ≤ places) × VisitsFit places w s visits × (weight ≡ all → w.given ≡ 0)
HoldFits places all w weight (Settling s xs) = (weight ≡ all) × (s ≡ w.live) × (xs ≡ live_values places w)

-- a thread with no weight has and holds nothing
abbrev pub IsIdle : View → Type 0
IsIdle v = (v.pushed ≡ []) × (v.taken ≡ []) × (v.read ≡ []) × (v.hold ≡ Nothing)

pub record ViewFits (places all : ℕ) (w : BucketState) (v : View) : Type 0 where
  pub size : 0 < v.weight → v.places ≡ places
  pub idle : v.weight ≡ 0 → IsIdle v
  pub hold : HoldFits places all w v.weight v.hold
  pub reads : (n : ℕ) (xs : Walk) → get_elem? v.read n ≡ some xs → (h : ℕ → ℕ) → weigh h xs.values ≤ total (pushed_of h) w.views

pub record Facts (places all : ℕ) (w : BucketState) : Type 0 where
  pub side : w.live < 2
  pub room : w.given ≤ places
  pub values_long : length w.values ≡ places + places
  pub marks_long : length w.marks ≡ places + places
  -- a place with a ticket of the live side, or still to be wiped, has a mark or a ticket's holder, and no other place has
  pub even : (s i : ℕ) → s < 2 → i < places → slice_index w.marks (place_index places s i) + total (ticket_at s i) w.views ≡ given_at w.live w.given s i + total (owed_at s i) w.views
  pub turns : w.turn ≡ total turn_of w.views
  pub one_turn : w.turn ≤ 1
  pub swaps : w.live ≡ total took_of w.views % 2
  pub shares : total weight_of w.views ≡ all
  -- what was pushed is what has a mark and what was wiped, however the values are weighed
  pub bags : (h : ℕ → ℕ) → total (pushed_of h) w.views ≡ stands h w.values w.marks + total (taken_of h) w.views
  pub each : (j : ℕ) (v : View) → get_elem? w.views j ≡ some v → ViewFits places all w v
