-- Histories of the bucket's steps, and the rule of the running table.
use Rattle.std.specs.Prelude.{Bool, true, false, ◌≡◌, ◌≢◌, ℕ, zero, suc, ◌+◌, ◌%◌, ◌^◌, ◌<◌, List, [], ◌∷◌, slice_index, replicate}
use mathlib.Core.Option.{Option, none, some}
use lib.ListN.{get_elem?}
use Rattle.atomic_table.specs.Table.{State}
use Rattle.metrics_bucket.specs.declared.view.View.{View}
use Rattle.metrics_bucket.specs.declared.view.Turn.{Turn}
use Rattle.metrics_bucket.specs.declared.view.Hold.{Hold}
use Rattle.metrics_bucket.specs.declared.view.Hold.TheVariants.{Nothing, Ticket, Written, Claimed, SideKnown, Reading, Clearing}
use Rattle.metrics_bucket.specs.declared.view.Visit.{Visit}
use Rattle.metrics_bucket.specs.declared.view.Visit.TheVariants.{Unseen, Marked, Read, Wiped}
use Rattle.metrics_bucket.specs.BucketState.{BucketState, Act, look, look_to_settle, ticket, write, finish, claim, look_at_turn, look_to_read, look_to_clear, takes, see, read, wipe, leave, quit, split, join, place_index, words_of, side_of, new_view, whole_view, walks_made, state_after}

-- the walk's visit at this place
abbrev pub HasVisit : Hold → ℕ → Visit → Type 0
HasVisit (Reading s visits) i c = get_elem? visits i ≡ some c
HasVisit (Clearing s visits) i c = get_elem? visits i ≡ some c
HasVisit _ i c = ⊥

-- a reading walk leaves when it has read all its places, a clear when it has wiped them
abbrev pub CanLeave : Hold → Type 0
CanLeave (Reading s visits) = (i : ℕ) (c : Visit) → get_elem? visits i ≡ some c → (x : ℕ) × (c ≡ Read x)
CanLeave (Clearing s visits) = (i : ℕ) (c : Visit) → get_elem? visits i ≡ some c → (x : ℕ) × (c ≡ Wiped x)
CanLeave _ = ⊥

-- a walk that reads may leave at any time, and is not finished
abbrev pub CanQuit : Hold → Type 0
CanQuit Claimed = Unit {0}
CanQuit (SideKnown s) = Unit {0}
CanQuit (Reading s visits) = Unit {0}
CanQuit _ = ⊥

-- when a thread may make a step
abbrev pub May : ℕ → ℕ → BucketState → ℕ → View → Act → Type 0
May places all w by v look = Unit {0}
May places all w by v look_to_settle = (v.hold ≡ Nothing) × (v.weight ≡ all)
May places all w by v ticket = (v.hold ≡ Nothing) × (w.given < places)
May places all w by v (write s i x) = v.hold ≡ Ticket s i
May places all w by v (finish s i x) = v.hold ≡ Written s i x
May places all w by v claim = (v.hold ≡ Nothing) × (w.turn ≡ 0)
May places all w by v look_at_turn = w.turn ≡ 1
May places all w by v look_to_read = v.hold ≡ Claimed
May places all w by v look_to_clear = v.hold ≡ Claimed
May places all w by v takes = (s : ℕ) × (v.hold ≡ SideKnown s)
May places all w by v (see i) = HasVisit v.hold i Unseen × (slice_index w.marks (place_index places (side_of v.hold) i) ≡ 1)
May places all w by v (read i) = HasVisit v.hold i Marked
May places all w by v (wipe s i x) = (visits : List Visit) × (v.hold ≡ Clearing s visits) × (get_elem? visits i ≡ some (Read x))
May places all w by v leave = CanLeave v.hold
May places all w by v quit = CanQuit v.hold
May places all w by v split = (v.hold ≡ Nothing) × (1 < v.weight)
May places all w by v (join other_id x) = (v.hold ≡ Nothing) × (x.hold ≡ Nothing) × (other_id ≢ by) × (get_elem? w.views other_id ≡ some x)

pub record Event : Type 0 where
  pub by : ℕ
  pub act : Act

-- the history goes from the state w to the state w'
abbrev pub Runs : ℕ → ℕ → BucketState → List Event → BucketState → Type 0
Runs places all w [] w' = w ≡ w'
Runs places all w (e ∷ es) w' = (v : View) × (get_elem? w.views e.by ≡ some v) × (0 < v.weight) × May places all w e.by v e.act × Runs places all (state_after places w e.by v e.act) es w'

abbrev zeros : ℕ → List ℕ
zeros n = replicate n 0

-- so many threads, and nothing done
abbrev pub start : ℕ → ℕ → BucketState
start places threads =
    record { epoch = 0; live = 0; given = 0; turn = 0; values = zeros (places + places); marks = zeros (places + places); views = replicate threads (new_view places 1) }

-- one thread that has the whole weight, and nothing done
abbrev pub opened : ℕ → BucketState
opened places = record { epoch = 0; live = 0; given = 0; turn = 0; values = zeros (places + places); marks = zeros (places + places); views = whole_view places ∷ [] }

-- what goes with the turn, after so many finished walks
abbrev pub turn_at : ℕ → Turn
turn_at walks = record { walks = walks % 2 ^ 64 }

-- it is at home while the turn is free
abbrev pub at_home : ℕ → ℕ → Option Turn
at_home zero walks = some (turn_at walks)
at_home (suc n) walks = none

abbrev pub homes_of : BucketState → List (Option Turn)
homes_of w = at_home w.turn (walks_made w) ∷ []

-- where the history of a running table begins: one thread with all of the weight, or, in an open bucket, so many threads of weight 1
abbrev pub begins : Bool → ℕ → ℕ → BucketState
begins false places all = record { epoch = 0; live = 0; given = 0; turn = 0; values = zeros (places + places); marks = zeros (places + places); views = new_view places all ∷ [] }
begins true places all = start places all

-- a step that needs no whole weight, and changes no view but the thread's own
abbrev pub IsPlain : Act → Type 0
IsPlain look_to_settle = ⊥
IsPlain split = ⊥
IsPlain (join other_id x) = ⊥
IsPlain _ = Unit {0}

abbrev pub ArePlain : List Event → Type 0
ArePlain [] = Unit {0}
ArePlain (e ∷ es) = IsPlain e.act × ArePlain es

abbrev pub AreLight : List View → Type 0
AreLight views = (j : ℕ) (v : View) → get_elem? views j ≡ some v → v.weight ≡ 1

-- a closed bucket has the weight 1024; in an open one each thread stays of weight 1
abbrev pub FitsKey : Bool → ℕ → List Event → BucketState → Type 0
FitsKey false all h w = all ≡ 1024
FitsKey true all h w = ArePlain h × AreLight w.views

-- The rule of the running table: a history leads to a state that has its words, what goes with the turn, and all accounts. It
-- starts from one whole thread or, where many may enter, from as many of weight 1 as entered
abbrev pub FollowsHistory : ℕ → Bool → State Turn View → Type 0
FollowsHistory places many s =
    (h : List Event) × (w : BucketState) × ((all : ℕ) × Runs places all (begins many places all) h w × FitsKey many all h w) × (words_of places w ≡ s.words) × (w.views ≡ s.views) × (homes_of w ≡ s.homes)
