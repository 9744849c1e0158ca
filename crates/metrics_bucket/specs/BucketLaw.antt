-- The law over all histories of a bucket's steps.
use Rattle.std.specs.Prelude.{◌≡◌, ◌==◌, ℕ, suc, ◌+◌, ◌<◌, if◌then◌else◌, List, [], ◌∷◌, ◌++◌, length, slice_index}
use mathlib.Core.Option.{some}
use lib.ListN.{get_elem?}
use Rattle.metrics_bucket.specs.declared.view.Push.{Push}
use Rattle.metrics_bucket.specs.declared.view.Walk.{Walk}
use Rattle.metrics_bucket.specs.declared.view.View.{View}
use Rattle.metrics_bucket.specs.declared.view.Hold.{Hold}
use Rattle.metrics_bucket.specs.declared.view.Hold.TheVariants.{SideKnown, Clearing}
use Rattle.metrics_bucket.specs.declared.view.Visit.{Visit}
use Rattle.metrics_bucket.specs.declared.view.Visit.TheVariants.{Marked}
use Rattle.metrics_bucket.specs.BucketState.{BucketState, total, walks_made, other, place_index, side_of, values_in, walk, leaving, Act, ticket, write, finish, claim, look_at_turn, look_to_read, look_to_clear, takes, see, read, wipe, leave, quit}
use Rattle.metrics_bucket.specs.Facts.{below, ticket_at, Facts}
use Rattle.metrics_bucket.specs.Places.{tickets_at, takes_in, wipes_at, mark_of, IsPush, WalkFinds, HoldPlaced}
use Rattle.metrics_bucket.specs.History.{HasVisit, CanLeave, Event, Runs, start, opened}

-- 1 if the step gives a ticket of this epoch
abbrev pub gives_in : ℕ → ℕ → Act → ℕ
gives_in e now ticket = if e == now then 1 else 0
gives_in e now _ = 0

abbrev pub epoch_after : ℕ → Act → ℕ
epoch_after now takes = suc now
epoch_after now _ = now

-- how many tickets of this epoch the history gives, which begins in the epoch now
abbrev pub tickets_given : ℕ → ℕ → List Event → ℕ
tickets_given e now [] = 0
tickets_given e now (event ∷ events) = gives_in e now event.act + tickets_given e (epoch_after now event.act) events

-- each ticket that was given is under way or pushed, exactly once, and there are no others; each epoch that ended was taken
-- once
abbrev pub TicketsAreOnce : List Event → BucketState → Type 0
TicketsAreOnce history w = (e : ℕ) → ((i : ℕ) → total (tickets_at e i) w.views ≡ below i (tickets_given e 0 history)) × (total (takes_in e) w.views ≡ below e w.epoch)

-- of a finished push exactly one holds: it has mark 1 on the live side below its tickets, or on the side that was taken last,
-- or one clear wiped it
abbrev pub InOnePlace : ℕ → BucketState → Type 0
InOnePlace places w = (j n : ℕ) (v : View) (p : Push) → get_elem? w.views j ≡ some v → get_elem? v.pushed n ≡ some p
    → (p.place < places) × (p.epoch ≡ w.epoch → p.place < w.given) × (mark_of places w p.epoch p.place + total (wipes_at p.epoch p.place) w.views ≡ 1)

-- each of these walks found at each place the value of that ticket's push
abbrev pub WalksFind : BucketState → List Walk → Type 0
WalksFind w walks = (n : ℕ) (walk : Walk) → get_elem? walks n ≡ some walk → WalkFinds w walk

-- a walk reads a place only while its mark is 1
abbrev pub ReadsMarked : ℕ → BucketState → Hold → Type 0
ReadsMarked places w hold = (i : ℕ) → HasVisit hold i Marked → slice_index w.marks (place_index places (side_of hold) i) ≡ 1

-- what a walk found at a place, finished or under way, is the value of that ticket's push; so is what is there with mark 1
abbrev pub FindsPushes : ℕ → BucketState → Type 0
FindsPushes places w = ((j : ℕ) (v : View) → get_elem? w.views j ≡ some v
    → WalksFind w v.taken × WalksFind w v.read × HoldPlaced w v.epoch v.hold × ReadsMarked places w v.hold)
    × ((j n : ℕ) (v : View) (p : Push) → get_elem? w.views j ≡ some v → get_elem? v.pushed n ≡ some p → IsPush w p.epoch p.place p.value)

-- when a clear leaves, its list has the value of each ticket that was given in its epoch, at the ticket's place, and no other value
abbrev pub LeavesComplete : List Event → BucketState → Type 0
LeavesComplete history w = (j s : ℕ) (v : View) (visits : List Visit) → get_elem? w.views j ≡ some v → v.hold ≡ Clearing s visits → CanLeave v.hold
    → ((leaving v).taken ≡ v.taken ++ walk v.epoch (values_in visits) ∷ []) × (length (values_in visits) ≡ tickets_given v.epoch 0 history)
    × ((i : ℕ) → i < length (values_in visits) → IsPush w v.epoch i (slice_index (values_in visits) i))

-- this place of the side that isn't live has no mark 1 and no ticket under way
abbrev pub IsClean : ℕ → BucketState → ℕ → Type 0
IsClean places w i = (slice_index w.marks (place_index places (other w.live) i) ≡ 0) × (total (ticket_at (other w.live) i) w.views ≡ 0)

-- when a clear is about to take, the side that becomes live is clean
abbrev pub TakesClean : ℕ → BucketState → Type 0
TakesClean places w = (j : ℕ) (v : View) (s i : ℕ) → get_elem? w.views j ≡ some v → v.hold ≡ SideKnown s → i < places → IsClean places w i

abbrev pub is_claim : Act → ℕ
is_claim claim = 1
is_claim _ = 0

abbrev pub is_quit : Act → ℕ
is_quit quit = 1
is_quit _ = 0

-- how many of the steps claim the turn, and how many give it back without a list
abbrev pub claims_in : List Event → ℕ
claims_in [] = 0
claims_in (event ∷ events) = is_claim event.act + claims_in events

abbrev pub quits_in : List Event → ℕ
quits_in [] = 0
quits_in (event ∷ events) = is_quit event.act + quits_in events

-- each finished walk had a claim of the turn of its own
abbrev pub WalksNeedTheTurn : List Event → BucketState → Type 0
WalksNeedTheTurn history w = claims_in history ≡ walks_made w + quits_in history + w.turn

-- what holds after each history
pub record IsSound (places all : ℕ) (history : List Event) (w : BucketState) : Type 0 where
  pub facts : Facts places all w
  pub tickets : TicketsAreOnce history w
  pub one_place : InOnePlace places w
  pub finds : FindsPushes places w
  pub leaves : LeavesComplete history w
  pub clean : TakesClean places w
  pub turns : WalksNeedTheTurn history w

-- thread 0 pushes 5, and clears
abbrev pub push_and_clear : List Act
push_and_clear = ticket ∷ write 0 0 5 ∷ finish 0 0 5 ∷ claim ∷ look_to_clear ∷ takes ∷ see 0 ∷ read 0 ∷ wipe 0 0 5 ∷ leave ∷ []

abbrev pub by_first : List Act → List Event
by_first [] = []
by_first (act ∷ acts) = record { by = 0; act = act } ∷ by_first acts

-- a history with a clear that takes a pushed value, so that the law isn't vacuous
abbrev pub ClearsFive : Type 0
ClearsFive = (w : BucketState) × Runs 1 1 (start 1 1) (by_first push_and_clear) w × (v : View) × (get_elem? w.views 0 ≡ some v) × (v.taken ≡ walk 0 (5 ∷ []) ∷ [])

abbrev pub event : ℕ → Act → Event
event by act = record { by = by; act = act }

-- thread 1 claims the turn and looks while thread 0 pushes 7, and reads it; meanwhile a claim of thread 0 finds the turn held
abbrev pub push_and_read : List Event
push_and_read = event 0 ticket ∷ event 1 claim ∷ event 1 look_to_read ∷ event 0 (write 0 0 7) ∷ event 0 (finish 0 0 7) ∷ event 1 (see 0) ∷ event 1 (read 0) ∷ event 0 look_at_turn ∷ event 1 leave ∷ []

-- a claim of the first found the turn held, and the second read 7
abbrev pub FoundAndRead : View → View → Type 0
FoundAndRead v u = (v.refused ≡ 1) × (u.read ≡ walk 0 (7 ∷ []) ∷ [])

-- a history of two threads with a reading that waits for a push
abbrev pub ReadsSeven : Type 0
ReadsSeven = (w : BucketState) × Runs 1 2 (start 1 2) push_and_read w × (v u : View) × (get_elem? w.views 0 ≡ some v) × (get_elem? w.views 1 ≡ some u) × FoundAndRead v u

-- The law of every history from any number of threads, and of every history from one whole thread, as in a running bucket
abbrev pub BucketLaw : Type 0
BucketLaw = ((places threads : ℕ) (history : List Event) (w : BucketState) → Runs places threads (start places threads) history w → IsSound places threads history w)
    × ((places : ℕ) (history : List Event) (w : BucketState) → Runs places 1024 (opened places) history w → IsSound places 1024 history w)
    × ClearsFive
    × ReadsSeven
