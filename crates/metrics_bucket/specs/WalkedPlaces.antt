-- What walking over some places does.
use Rattle.std.specs.Prelude.{◌≡◌, ℕ, ◌+◌, ◌*◌, ◌<◌, ◌≤◌, ◌⊎◌, List, [], length, min}
use mathlib.Core.Option.{some}
use lib.ListN.{get_elem?}
use Rattle.metrics_bucket.specs.declared.view.View.{View}
use Rattle.metrics_bucket.specs.declared.view.Walk.{Walk}
use Rattle.metrics_bucket.specs.declared.view.Hold.{Hold}
use Rattle.metrics_bucket.specs.declared.view.Hold.TheVariants.{Reading, Clearing}
use Rattle.metrics_bucket.specs.declared.view.Visit.{Visit}
use Rattle.metrics_bucket.specs.declared.view.Visit.TheVariants.{Unseen, Marked, Read, Wiped}
use Rattle.metrics_bucket.specs.BucketState.{blocks_of, place_index, holding, walk, with_taken, with_read, visits_of, values_in}
use Rattle.metrics_bucket.specs.Facts.{weigh, weigh_pushes, weigh_walks}
use Rattle.metrics_bucket.specs.Places.{Covers}
use Rattle.metrics_bucket.specs.Steps.{Seated}

-- the two walks: one leaves each place as it found it, the other wipes it
pub data WalkKind : Type 0 where
  reads : WalkKind
  clears : WalkKind

-- what a thread holds on such a walk
abbrev pub walking : WalkKind → ℕ → List Visit → Hold
walking reads side visits = Reading side visits
walking clears side visits = Clearing side visits

-- a place that such a walk is done with
abbrev pub visited : WalkKind → ℕ → Visit
visited reads x = Read x
visited clears x = Wiped x

-- a thread with one more list of such a walk, which holds nothing
abbrev pub with_walk : WalkKind → View → Walk → View
with_walk reads v list = with_read v list
with_walk clears v list = with_taken v list

-- what a walk found so far
abbrev pub walk_of : View → Walk
walk_of v = walk v.epoch (values_in (visits_of v.hold))

-- a walk over so many places left with this list, and nothing else changed; a thread with the whole weight finds all that was
-- pushed and not taken
abbrev pub IsWalked : WalkKind → Seated → ℕ → Walk → Seated → Type 0
IsWalked kind m given list m' =
    (length list.values ≡ given) × (m' ≡ (with_walk kind m.0 list, [])) × (list.epoch ≡ m.0.epoch) × Covers m.0.pushed list
    × (m.0.weight ≡ 1024 → (h : ℕ → ℕ) → weigh_pushes h m.0.pushed ≡ weigh h list.values + weigh_walks h m.0.taken)

-- the places from start on, below end, are not seen yet
abbrev pub AreUnseen : ℕ → ℕ → List Visit → Type 0
AreUnseen start end visits = (i : ℕ) → start ≤ i → i < end → get_elem? visits i ≡ some Unseen

-- their marks were seen
abbrev pub AreMarked : ℕ → ℕ → List Visit → Type 0
AreMarked start end visits = (i : ℕ) → start ≤ i → i < end → get_elem? visits i ≡ some Marked

-- they were read
abbrev pub AreRead : ℕ → ℕ → List Visit → Type 0
AreRead start end visits = (i : ℕ) → start ≤ i → i < end → (x : ℕ) × (get_elem? visits i ≡ some (Read x))

-- the walk's visits of these places are of this form now, and no other changed
pub record Goes (form : ℕ → Visit) (kind : WalkKind) (m m' : Seated) (side start end : ℕ) : Type 0 where
  pub me : m' ≡ (holding m.0 (walking kind side (visits_of m'.0.hold)), m.1)
  pub long : length (visits_of m'.0.hold) ≡ length (visits_of m.0.hold)
  pub found : (i : ℕ) → start ≤ i → i < end → (x : ℕ) × (get_elem? (visits_of m'.0.hold) i ≡ some (form x))
  pub others : (i : ℕ) → (i < start) ⊎ (end ≤ i) → get_elem? (visits_of m'.0.hold) i ≡ get_elem? (visits_of m.0.hold) i

-- the walk is done with the places from start on, below end, and no other changed
abbrev pub Walks : WalkKind → Seated → Seated → ℕ → ℕ → ℕ → Type 0
Walks kind m m' side start end = Goes (visited kind) kind m m' side start end

-- the walk's places of a block end here, and this word has the block's marks
pub record IsBlock (kind : WalkKind) (m : Seated) (word side block end : ℕ) : Type 0 where
  pub hold : m.0.hold ≡ walking kind side (visits_of m.0.hold)
  pub word_is : word ≡ 2 + (m.0.places + m.0.places) + place_index (blocks_of m.0.places) side block
  pub some_place : 64 * block < end
  pub cut : end ≡ min (length (visits_of m.0.hold)) (64 * block + 64)
