-- What each step shows its thread.
use Rattle.std.specs.Prelude.{◌≡◌, ◌≢◌, ℕ, ◌+◌, ◌/◌, ◌%◌, ◌<◌, ◌≤◌, List, [], length, slice_index}
use mathlib.Core.Option.{some}
use lib.ListN.{get_elem?}
use Rattle.atomic_table.specs.Table.{Me, Step}
use Rattle.metrics_bucket.specs.declared.view.View.{View}
use Rattle.metrics_bucket.specs.declared.view.Turn.{Turn}
use Rattle.metrics_bucket.specs.declared.view.Push.{Push}
use Rattle.metrics_bucket.specs.declared.view.Walk.{Walk}
use Rattle.metrics_bucket.specs.declared.view.Hold.{Hold}
use Rattle.metrics_bucket.specs.declared.view.Hold.TheVariants.{Nothing, Ticket, Written, Settling}
use Rattle.metrics_bucket.specs.BucketState.{place_index, holding, holding_at, having_seen, seeing, finding_held, walk, pushing}
use Rattle.metrics_bucket.specs.Facts.{weigh, weigh_pushes, weigh_walks}
use Rattle.metrics_bucket.specs.Places.{Covers}

abbrev pub Seated : Type 0
Seated = Me Turn View

-- how many values are in these lists
abbrev pub count_all : List Walk → ℕ
count_all xss = weigh_walks (λ _. 1) xss

-- a thread with the whole weight knows the control word
abbrev pub IsControl : View → ℕ → Type 0
IsControl v r = v.weight ≡ 1024 → (r % 2 ≡ length v.taken % 2) × (r / 2 + count_all v.taken ≡ length v.pushed)

abbrev pub control_looked : Step Turn → Seated → ℕ → Seated → Type 0
control_looked st m r m' = (m' ≡ (seeing m.0 r, m.1)) × (m.0.weight ≤ 1024) × (0 < m.0.weight → r / 2 ≤ m.0.places) × (m.0.hold ≡ Nothing → IsControl m.0 r)

abbrev pub weight_looked : Step Turn → Seated → ℕ → Seated → Type 0
weight_looked st m r m' = (m' ≡ m) × (m.0.weight ≤ 1024)

-- nothing changed but how often it looked, and the control word that it saw last
abbrev pub HasLooked : Seated → Seated → Type 0
HasLooked m m' = (m' ≡ (having_seen m.0 m'.0.seen m'.0.looks, m.1)) × (m.0.looks ≤ m'.0.looks)

-- nothing changed but the control word that it saw last, and it looked at least once more
abbrev pub HasLookedAnew : Seated → Seated → Type 0
HasLookedAnew m m' = HasLooked m m' × (m.0.looks < m'.0.looks)

-- a claim found the turn held, and nothing else changed
abbrev pub WasBusy : Seated → Seated → Type 0
WasBusy m m' = m' ≡ (finding_held m.0, m.1)

-- what a failure says to a thread with the whole weight: the side is full
abbrev pub IsFullFor : ℕ → List Push → List Walk → Type 0
IsFullFor places pushed taken = length pushed ≡ count_all taken + places

abbrev pub ticket_drawn : Step Turn → Seated → ℕ → Seated → Type 0
ticket_drawn st m r m' = (r ≡ st.first → (e : ℕ) × (m' ≡ (holding_at m.0 e (Ticket (r % 2) (r / 2)), m.1))) × (r ≢ st.first → m' ≡ m) × IsControl m.0 r

abbrev pub value_written : Step Turn → Seated → ℕ → Seated → Type 0
value_written st m r m' = (s i : ℕ) → m.0.hold ≡ Ticket s i → m' ≡ (holding m.0 (Written s i r), m.1)

abbrev pub push_finished : Step Turn → Seated → ℕ → Seated → Type 0
push_finished st m r m' = (s i x : ℕ) → m.0.hold ≡ Written s i x → m' ≡ (pushing m.0 i x, m.1)

-- this value was pushed at one epoch and place, and nothing else changed but the looks
abbrev pub HasPushed : Seated → ℕ → Seated → Type 0
HasPushed m x m' = (e i : ℕ) × (i < m.0.places) × (m' ≡ (pushing (holding_at (having_seen m.0 m'.0.seen m'.0.looks) e Nothing) i x, m.1))

-- the values that a thread knows to be the live side's
abbrev pub values_known : Hold → List ℕ
values_known (Settling s vs) = vs
values_known hold = []

-- each list is, as a multiset, a part of what was pushed
abbrev pub ArePartsOf : List Walk → List Push → Type 0
ArePartsOf read pushed = (n : ℕ) (xs : Walk) → get_elem? read n ≡ some xs → (h : ℕ → ℕ) → weigh h xs.values ≤ weigh_pushes h pushed

-- it knows the values of the live side, in the order of their tickets: what was pushed is what was taken and these
abbrev pub live_side_looked : Step Turn → Seated → ℕ → Seated → Type 0
live_side_looked st m r m' =
    (vs : List ℕ) × (m' ≡ (holding m.0 (Settling (r % 2) vs), m.1)) × (length vs ≡ r / 2) × (length vs ≤ m.0.places) × ((h : ℕ → ℕ) → weigh_pushes h m.0.pushed ≡ weigh h vs + weigh_walks h m.0.taken) × ArePartsOf m.0.read m.0.pushed × Covers m.0.pushed (walk (length m.0.taken) vs)

abbrev pub settled_value_looked : Step Turn → Seated → ℕ → Seated → Type 0
settled_value_looked st m r m' = (m' ≡ m) × ((s i : ℕ) (vs : List ℕ) → m.0.hold ≡ Settling s vs → st.word ≡ 2 + place_index m.0.places s i → i < length vs → r ≡ slice_index vs i)
