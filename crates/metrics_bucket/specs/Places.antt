-- Where the pushes of each epoch are, and what walks find.
use Rattle.std.specs.Prelude.{◌≡◌, ◌==◌, ℕ, zero, suc, ◌+◌, ◌<◌, ◌≤◌, ◌⊎◌, if◌then◌else◌, List, [], ◌∷◌, length, slice_index}
use mathlib.Core.Option.{some}
use lib.ListN.{get_elem?}
use Rattle.metrics_bucket.specs.declared.view.Push.{Push}
use Rattle.metrics_bucket.specs.declared.view.Walk.{Walk}
use Rattle.metrics_bucket.specs.declared.view.View.{View}
use Rattle.metrics_bucket.specs.declared.view.Hold.{Hold}
use Rattle.metrics_bucket.specs.declared.view.Hold.TheVariants.{Nothing, Ticket, Written, Claimed, SideKnown, Reading, Clearing, Settling}
use Rattle.metrics_bucket.specs.declared.view.Visit.{Visit}
use Rattle.metrics_bucket.specs.declared.view.Visit.TheVariants.{Read, Wiped}
use Rattle.metrics_bucket.specs.BucketState.{BucketState, total, walks_made, other, place_index}
use Rattle.metrics_bucket.specs.Facts.{same, below, turn_in, took_in, took_of}

-- how many of the pushes are of this epoch and place
abbrev pub pushes_at : ℕ → ℕ → List Push → ℕ
pushes_at e i [] = 0
pushes_at e i (p ∷ ps) = same e i p.epoch p.place + pushes_at e i ps

-- their values, added up
abbrev pub values_at : ℕ → ℕ → List Push → ℕ
values_at e i [] = 0
values_at e i (p ∷ ps) = (if e == p.epoch then (if i == p.place then p.value else 0) else 0) + values_at e i ps

abbrev pub pushed_at : ℕ → ℕ → View → ℕ
pushed_at e i v = pushes_at e i v.pushed

abbrev pub value_at : ℕ → ℕ → View → ℕ
value_at e i v = values_at e i v.pushed

-- 1 if the ticket that is held, of the given epoch, is of this epoch and place
abbrev pub held_in : ℕ → ℕ → ℕ → Hold → ℕ
held_in e i epoch (Ticket s j) = same e i epoch j
held_in e i epoch (Written s j x) = same e i epoch j
held_in e i epoch _ = 0

-- a thread's tickets of this epoch and place: pushed, or under way
abbrev pub tickets_at : ℕ → ℕ → View → ℕ
tickets_at e i v = pushed_at e i v + held_in e i v.epoch v.hold

-- the lengths of the walks of this epoch, added up
abbrev pub lengths_of : ℕ → List Walk → ℕ
lengths_of e [] = 0
lengths_of e (walk ∷ walks) = (if e == walk.epoch then length walk.values else 0) + lengths_of e walks

abbrev pub clearing_of : ℕ → ℕ → Hold → ℕ
clearing_of e epoch (Clearing s visits) = if e == epoch then length visits else 0
clearing_of e epoch _ = 0

-- how many places of this epoch the thread's takes reported
abbrev pub told_of : ℕ → View → ℕ
told_of e v = lengths_of e v.taken + clearing_of e v.epoch v.hold

-- how many of the walks are of this epoch
abbrev pub walks_in : ℕ → List Walk → ℕ
walks_in e [] = 0
walks_in e (walk ∷ walks) = (if e == walk.epoch then 1 else 0) + walks_in e walks

-- how many takes of this epoch the thread made
abbrev pub takes_in : ℕ → View → ℕ
takes_in e v = walks_in e v.taken + (if e == v.epoch then took_in v.hold else 0)

-- how many tickets were given in this epoch
abbrev pub given_of : ℕ → BucketState → ℕ
given_of e w = total (told_of e) w.views + (if e == w.epoch then w.given else 0)

-- how many of the walks have this place of this epoch
abbrev pub walks_at : ℕ → ℕ → List Walk → ℕ
walks_at e i [] = 0
walks_at e i (walk ∷ walks) = (if e == walk.epoch then below i (length walk.values) else 0) + walks_at e i walks

abbrev pub is_wiped : Visit → ℕ
is_wiped (Wiped x) = 1
is_wiped _ = 0

-- 1 if the place is wiped
abbrev pub wiped_place : List Visit → ℕ → ℕ
wiped_place [] i = 0
wiped_place (c ∷ cs) zero = is_wiped c
wiped_place (c ∷ cs) (suc i) = wiped_place cs i

abbrev pub wiped_hold : ℕ → ℕ → ℕ → Hold → ℕ
wiped_hold e i epoch (Clearing s visits) = if e == epoch then wiped_place visits i else 0
wiped_hold e i epoch _ = 0

-- how many clears of the thread wiped this place of this epoch
abbrev pub wipes_at : ℕ → ℕ → View → ℕ
wipes_at e i v = walks_at e i v.taken + wiped_hold e i v.epoch v.hold

-- the mark of this place of this epoch: on the live side, or on the side that was taken last
abbrev pub mark_of : ℕ → BucketState → ℕ → ℕ → ℕ
mark_of places w e i = if e == w.epoch then slice_index w.marks (place_index places w.live i) else if suc e == w.epoch then slice_index w.marks (place_index places (other w.live) i) else 0

-- one push was finished with the ticket of this epoch and place, and this is its value
abbrev pub IsPush : BucketState → ℕ → ℕ → ℕ → Type 0
IsPush w e i x = (total (pushed_at e i) w.views ≡ 1) × (total (value_at e i) w.views ≡ x)

-- the epoch in which the side gives tickets or gave the last
abbrev pub IsEpochOf : BucketState → ℕ → ℕ → Type 0
IsEpochOf w s e = ((s ≡ w.live) × (e ≡ w.epoch)) ⊎ ((s ≡ other w.live) × (suc e ≡ w.epoch))

-- a finished walk has at each place the value of that ticket's push
abbrev pub WalkFinds : BucketState → Walk → Type 0
WalkFinds w walk = (i : ℕ) → i < length walk.values → IsPush w walk.epoch i (slice_index walk.values i)

abbrev pub VisitFinds : BucketState → ℕ → ℕ → Visit → Type 0
VisitFinds w e i (Read x) = IsPush w e i x
VisitFinds w e i (Wiped x) = IsPush w e i x
VisitFinds w e i _ = Unit {0}

-- so has a walk under way at each place that it read
abbrev pub VisitsFind : BucketState → ℕ → List Visit → Type 0
VisitsFind w e visits = (i : ℕ) (c : Visit) → get_elem? visits i ≡ some c → VisitFinds w e i c

-- what is held is of the epoch that the thread knows
abbrev pub HoldPlaced : BucketState → ℕ → Hold → Type 0
HoldPlaced w e Nothing = Unit {0}
HoldPlaced w e (Ticket s i) = IsEpochOf w s e
HoldPlaced w e (Written s i x) = IsEpochOf w s e
HoldPlaced w e Claimed = Unit {0}
HoldPlaced w e (SideKnown s) = Unit {0}
HoldPlaced w e (Reading s visits) = (e ≡ w.epoch) × VisitsFind w e visits
HoldPlaced w e (Clearing s visits) = (suc e ≡ w.epoch) × VisitsFind w e visits
HoldPlaced w e (Settling s xs) = Unit {0}

pub record ViewPlaced (w : BucketState) (v : View) : Type 0 where
  pub hold : HoldPlaced w v.epoch v.hold
  pub turn : turn_in v.hold ≡ 1 → v.turn ≡ walks_made w
  pub taken : (n : ℕ) (walk : Walk) → get_elem? v.taken n ≡ some walk → WalkFinds w walk
  pub read : (n : ℕ) (walk : Walk) → get_elem? v.read n ≡ some walk → WalkFinds w walk

pub record Placed (places : ℕ) (w : BucketState) : Type 0 where
  -- each ticket that was given in an epoch is held or pushed, once, and no other
  pub tickets : (e i : ℕ) → total (tickets_at e i) w.views ≡ below i (given_of e w)
  -- no take reported an epoch that goes on or is to come
  pub told : (e : ℕ) → w.epoch ≤ e → total (told_of e) w.views ≡ 0
  -- a take reported at most all places
  pub room : (e : ℕ) → total (told_of e) w.views ≤ places
  -- each epoch that ended has one take, and no other epoch has one
  pub once : (e : ℕ) → total (takes_in e) w.views ≡ below e w.epoch
  -- a finished push has mark 1, or one clear wiped it
  pub one_place : (e i : ℕ) → i < places → total (pushed_at e i) w.views ≡ mark_of places w e i + total (wipes_at e i) w.views
  -- a place with mark 1 has the value of its ticket's push
  pub marked : (s i : ℕ) → s < 2 → i < places → slice_index w.marks (place_index places s i) ≡ 1 → (e : ℕ) × IsEpochOf w s e × IsPush w e i (slice_index w.values (place_index places s i))
  pub each : (j : ℕ) (v : View) → get_elem? w.views j ≡ some v → ViewPlaced w v
  pub takes : w.epoch ≡ total took_of w.views

-- each of these pushes is of an earlier epoch, or of this one and below this place
abbrev pub Reaches : List Push → ℕ → ℕ → Type 0
Reaches pushed epoch end = (n : ℕ) (p : Push) → get_elem? pushed n ≡ some p → (p.epoch < epoch) ⊎ ((p.epoch ≡ epoch) × (p.place < end))

-- where one of these pushes is of the walk's epoch, and the walk went over its place, it found the push's value there
abbrev pub Finds : List Push → Walk → Type 0
Finds pushed walk = (n : ℕ) (p : Push) → get_elem? pushed n ≡ some p → p.epoch ≡ walk.epoch → p.place < length walk.values → slice_index walk.values p.place ≡ p.value

-- each of these pushes is of an earlier epoch than the walk, or the walk has its value at its place
abbrev pub Covers : List Push → Walk → Type 0
Covers pushed walk = (n : ℕ) (p : Push) → get_elem? pushed n ≡ some p → (p.epoch < walk.epoch) ⊎ ((p.epoch ≡ walk.epoch) × (p.place < length walk.values) × (slice_index walk.values p.place ≡ p.value))
