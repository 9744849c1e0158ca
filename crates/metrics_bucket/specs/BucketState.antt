-- The bucket's state, and its single steps.
use Rattle.std.specs.Prelude.{Bool, true, false, ℕ, zero, suc, ◌+◌, ◌-◌, ◌*◌, ◌/◌, List, [], ◌∷◌, ◌++◌, length, slice_index, slice_set, take, drop, replicate}
use Rattle.metrics_bucket.specs.declared.view.View.{View}
use Rattle.metrics_bucket.specs.declared.view.Push.{Push}
use Rattle.metrics_bucket.specs.declared.view.Walk.{Walk}
use Rattle.metrics_bucket.specs.declared.view.Hold.{Hold}
use Rattle.metrics_bucket.specs.declared.view.Hold.TheVariants.{Nothing, Ticket, Written, Claimed, SideKnown, Reading, Clearing, Settling}
use Rattle.metrics_bucket.specs.declared.view.Visit.{Visit}
use Rattle.metrics_bucket.specs.declared.view.Visit.TheVariants.{Unseen, Marked, Read, Wiped}

-- The epoch, which is the number of takes so far, the live side (0 or 1) with its tickets given, and the turn. Then a value and a
-- mark for each place of both sides, and what each thread has and holds
pub record BucketState : Type 0 where
  pub epoch : ℕ
  pub live : ℕ
  pub given : ℕ
  pub turn : ℕ
  pub values : List ℕ
  pub marks : List ℕ
  pub views : List View

abbrev pub base : ℕ → ℕ → ℕ
base places zero = 0
base places (suc side) = places

abbrev pub other : ℕ → ℕ
other zero = 1
other (suc side) = 0

-- where place i of a side is in the lists
abbrev pub place_index : ℕ → ℕ → ℕ → ℕ
place_index places side i = base places side + i

-- how many blocks of 64 places a side has, the last one perhaps with fewer
abbrev pub blocks_of : ℕ → ℕ
blocks_of places = (places + 63) / 64

abbrev pub side_marks : ℕ → ℕ → List ℕ → List ℕ
side_marks places side marks = take places (drop (base places side) marks)

-- so many marks from the i-th on as the bits of a word, the first one the lowest
unfoldable pub bits : List ℕ → ℕ → ℕ → ℕ
bits marks i zero = 0
bits marks i (suc n) = slice_index marks i + 2 * bits marks (suc i) n

-- so many words from the k-th on, each with the marks of a block
abbrev pub mark_words : List ℕ → ℕ → ℕ → List ℕ
mark_words marks k zero = []
mark_words marks k (suc n) = bits marks (64 * k) 64 ∷ mark_words marks (suc k) n

-- the marks of both sides, 64 to a word
abbrev pub packed : ℕ → List ℕ → List ℕ
packed places marks = mark_words (side_marks places 0 marks) 0 (blocks_of places) ++ mark_words (side_marks places 1 marks) 0 (blocks_of places)

-- the words of the table: control, turn, values, marks
abbrev pub words_of : ℕ → BucketState → List ℕ
words_of places w = (2 * w.given + w.live) ∷ w.turn ∷ (w.values ++ packed places w.marks)

-- f of each view, added up
abbrev pub total : (View → ℕ) → List View → ℕ
total f [] = 0
total f (v ∷ vs) = f v + total f vs

-- how many walks a thread has finished
abbrev pub walks_of : View → ℕ
walks_of v = length v.taken + length v.read

-- how many walks are finished
abbrev pub walks_made : BucketState → ℕ
walks_made w = total walks_of w.views

abbrev pub new_view : ℕ → ℕ → View
new_view places weight = record { places = places; weight = weight; pushed = []; taken = []; read = []; hold = Nothing; epoch = 0; turn = 0; seen = 0; looks = 0; refused = 0 }

abbrev pub whole_view : ℕ → View
whole_view places = new_view places 1024

-- the first thread's weight: the whole, or, in an open bucket, that of each thread
abbrev pub first_view : Bool → ℕ → View
first_view false places = new_view places 1024
first_view true places = new_view places 1

-- it holds something, of this epoch, knows this many walks, and saw this control word with the last of so many looks
abbrev pub knows_as : View → ℕ → ℕ → ℕ → ℕ → Hold → View
knows_as v epoch turn seen looks hold =
    record { places = v.places; weight = v.weight; pushed = v.pushed; taken = v.taken; read = v.read; hold = hold; epoch = epoch; turn = turn; seen = seen; looks = looks; refused = v.refused }

abbrev pub holds_as : View → ℕ → ℕ → Hold → View
holds_as v epoch turn hold = knows_as v epoch turn v.seen v.looks hold

-- it has made so many looks, and saw this control word with the last of them; nothing else changed
abbrev pub having_seen : View → ℕ → ℕ → View
having_seen v seen looks = knows_as v v.epoch v.turn seen looks v.hold

-- one look more saw this control word
abbrev pub seeing : View → ℕ → View
seeing v seen = having_seen v seen (v.looks + 1)

-- one claim more found the turn held, and nothing else changed
abbrev pub finding_held : View → View
finding_held v =
    record { places = v.places; weight = v.weight; pushed = v.pushed; taken = v.taken; read = v.read; hold = v.hold; epoch = v.epoch; turn = v.turn; seen = v.seen; looks = v.looks; refused = v.refused + 1 }

abbrev pub holding : View → Hold → View
holding v hold = holds_as v v.epoch v.turn hold

abbrev pub holding_at : View → ℕ → Hold → View
holding_at v epoch hold = holds_as v epoch v.turn hold

abbrev pub claiming : View → ℕ → View
claiming v turn = holds_as v v.epoch turn Claimed

abbrev pub push : ℕ → ℕ → ℕ → Push
push epoch place value = record { epoch = epoch; place = place; value = value }

abbrev pub walk : ℕ → List ℕ → Walk
walk epoch values = record { epoch = epoch; values = values }

abbrev pub pushing : View → ℕ → ℕ → View
pushing v i x = record { places = v.places; weight = v.weight; pushed = v.pushed ++ push v.epoch i x ∷ []; taken = v.taken; read = v.read; hold = Nothing; epoch = v.epoch; turn = v.turn; seen = v.seen; looks = v.looks; refused = v.refused }

-- a walk's visits, at another place of it
abbrev pub visits_of : Hold → List Visit
visits_of (Reading side visits) = visits
visits_of (Clearing side visits) = visits
visits_of _ = []

abbrev pub put_visit : Hold → ℕ → Visit → Hold
put_visit (Reading side visits) i c = Reading side (slice_set visits i c)
put_visit (Clearing side visits) i c = Clearing side (slice_set visits i c)
put_visit hold i c = hold

abbrev pub side_of : Hold → ℕ
side_of (Reading side visits) = side
side_of (Clearing side visits) = side
side_of _ = 0

abbrev pub value_in : Visit → ℕ
value_in (Read x) = x
value_in (Wiped x) = x
value_in _ = 0

abbrev pub values_in : List Visit → List ℕ
values_in [] = []
values_in (c ∷ cs) = value_in c ∷ values_in cs

-- with one more list taken or read, and nothing held
abbrev pub with_taken : View → Walk → View
with_taken v xs = record { places = v.places; weight = v.weight; pushed = v.pushed; taken = v.taken ++ xs ∷ []; read = v.read; hold = Nothing; epoch = v.epoch; turn = v.turn; seen = v.seen; looks = v.looks; refused = v.refused }

abbrev pub with_read : View → Walk → View
with_read v xs = record { places = v.places; weight = v.weight; pushed = v.pushed; taken = v.taken; read = v.read ++ xs ∷ []; hold = Nothing; epoch = v.epoch; turn = v.turn; seen = v.seen; looks = v.looks; refused = v.refused }

-- a walk that leaves adds its list
abbrev pub left_from : View → Hold → View
left_from v (Reading side visits) = with_read v (walk v.epoch (values_in visits))
left_from v (Clearing side visits) = with_taken v (walk v.epoch (values_in visits))
left_from v _ = holding v Nothing

abbrev pub leaving : View → View
leaving v = left_from v v.hold

-- the live side's values
abbrev pub live_values : ℕ → BucketState → List ℕ
live_values places w = take w.given (drop (base places w.live) w.values)

-- what a thread that splits gives away, and what is left to it
abbrev pub left_part : View → View
left_part v = record { places = v.places; weight = v.weight - v.weight / 2; pushed = v.pushed; taken = v.taken; read = v.read; hold = v.hold; epoch = v.epoch; turn = v.turn; seen = v.seen; looks = v.looks; refused = v.refused }

abbrev pub right_part : View → View
right_part v = new_view v.places (v.weight / 2)

-- what a thread has after it joined another
abbrev pub both_parts : View → View → View
both_parts v x = record { places = v.places; weight = v.weight + x.weight; pushed = v.pushed ++ x.pushed; taken = v.taken ++ x.taken; read = v.read ++ x.read; hold = v.hold; epoch = v.epoch; turn = v.turn; seen = v.seen; looks = v.looks; refused = v.refused }

-- One step of a thread. A look is at the control word, and a look at the turn is a claim that finds it held. A compare-exchange of the control word that finds another word is no step
pub data Act : Type 0 where
  look : Act
  look_to_settle : Act
  ticket : Act
  write : ℕ → ℕ → ℕ → Act
  finish : ℕ → ℕ → ℕ → Act
  claim : Act
  look_at_turn : Act
  look_to_read : Act
  look_to_clear : Act
  takes : Act
  see : ℕ → Act
  read : ℕ → Act
  wipe : ℕ → ℕ → ℕ → Act
  leave : Act
  quit : Act
  split : Act
  join : ℕ → View → Act

abbrev pub view_after : ℕ → BucketState → View → Act → View
view_after places w v look = seeing v (2 * w.given + w.live)
view_after places w v look_to_settle = holding v (Settling w.live (live_values places w))
view_after places w v ticket = holding_at v w.epoch (Ticket w.live w.given)
view_after places w v (write s i x) = holding v (Written s i x)
view_after places w v (finish s i x) = pushing v i x
view_after places w v claim = claiming v (walks_made w)
view_after places w v look_at_turn = finding_held v
view_after places w v look_to_read = holding_at v w.epoch (Reading w.live (replicate w.given Unseen))
view_after places w v look_to_clear = holding v (SideKnown w.live)
view_after places w v takes = holding_at v w.epoch (Clearing w.live (replicate w.given Unseen))
view_after places w v (see i) = holding v (put_visit v.hold i Marked)
view_after places w v (read i) = holding v (put_visit v.hold i (Read (slice_index w.values (place_index places (side_of v.hold) i))))
view_after places w v (wipe s i x) = holding v (put_visit v.hold i (Wiped x))
view_after places w v leave = leaving v
view_after places w v quit = holding v Nothing
view_after places w v split = left_part v
view_after places w v (join other_id x) = both_parts v x

abbrev pub state_after : ℕ → BucketState → ℕ → View → Act → BucketState
state_after places w by v ticket = record w { given = w.given + 1; views = slice_set w.views by (view_after places w v ticket) }
state_after places w by v (write s i x) = record w { values = slice_set w.values (place_index places s i) x; views = slice_set w.views by (view_after places w v (write s i x)) }
state_after places w by v (finish s i x) = record w { marks = slice_set w.marks (place_index places s i) 1; views = slice_set w.views by (view_after places w v (finish s i x)) }
state_after places w by v claim = record w { turn = 1; views = slice_set w.views by (view_after places w v claim) }
state_after places w by v takes = record w { epoch = suc w.epoch; live = other w.live; given = 0; views = slice_set w.views by (view_after places w v takes) }
state_after places w by v (wipe s i x) = record w { marks = slice_set w.marks (place_index places s i) 0; views = slice_set w.views by (view_after places w v (wipe s i x)) }
state_after places w by v quit = record w { turn = 0; views = slice_set w.views by (view_after places w v quit) }
state_after places w by v leave = record w { turn = 0; views = slice_set w.views by (view_after places w v leave) }
state_after places w by v split = record w { views = slice_set w.views by (left_part v) ++ right_part v ∷ [] }
state_after places w by v (join other_id x) = record w { views = slice_set (slice_set w.views by (both_parts v x)) other_id (new_view 0 0) }
state_after places w by v act = record w { views = slice_set w.views by (view_after places w v act) }
