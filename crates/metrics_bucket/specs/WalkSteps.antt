-- What each step of a walk shows its thread.
use Rattle.std.specs.Prelude.{◌≡◌, ◌≢◌, ℕ, ◌+◌, ◌-◌, ◌*◌, ◌/◌, ◌%◌, ◌^◌, ◌≤◌, List, [], ◌∷◌, length, replicate}
use Rattle.atomic_table.specs.Table.{Step}
use Rattle.metrics_bucket.specs.declared.view.View.{View}
use Rattle.metrics_bucket.specs.declared.view.Turn.{Turn}
use Rattle.metrics_bucket.specs.declared.view.Hold.{Hold}
use Rattle.metrics_bucket.specs.declared.view.Hold.TheVariants.{Nothing, SideKnown, Reading, Clearing}
use Rattle.metrics_bucket.specs.declared.view.Visit.{Visit}
use Rattle.metrics_bucket.specs.declared.view.Visit.TheVariants.{Unseen, Marked, Read, Wiped}
use Rattle.metrics_bucket.specs.BucketState.{place_index, walk, holding, holding_at, claiming, finding_held, visits_of, leaving, put_visit, side_of, values_in}
use Rattle.metrics_bucket.specs.Steps.{Seated}
use Rattle.metrics_bucket.specs.Facts.{weigh, weigh_pushes, weigh_walks}
use Rattle.metrics_bucket.specs.History.{HasVisit, turn_at}
use Rattle.metrics_bucket.specs.Places.{Reaches, Finds}
use Rattle.metrics_bucket.specs.WalkedPlaces.{WalkKind, clears, AreUnseen, AreRead, Goes, IsBlock}

-- the word of a walk's place
abbrev pub IsValueOf : View → ℕ → ℕ → Type 0
IsValueOf v word i = word ≡ 2 + place_index v.places (side_of v.hold) i

-- the first n bits of a word are set
abbrev pub AreSet : ℕ → ℕ → Type 0
AreSet n word = word % 2 ^ n ≡ 2 ^ n - 1

abbrev pub turn_claimed : Step Turn → Seated → ℕ → Seated → Type 0
turn_claimed st m r m' = (r ≡ 0 → (n : ℕ) × (m' ≡ (claiming m.0 n, (0, turn_at n) ∷ []))) × (r ≢ 0 → m' ≡ (finding_held m.0, m.1)) × (m.0.weight ≡ 1024 → r ≡ 0)

abbrev pub reading_looked : Step Turn → Seated → ℕ → Seated → Type 0
reading_looked st m r m' = (e : ℕ) × (m' ≡ (holding_at m.0 e (Reading (r % 2) (replicate (r / 2) Unseen)), m.1)) × (r / 2 ≤ m.0.places) × Reaches m.0.pushed e (r / 2) × (m.0.weight ≡ 1024 → e ≡ length m.0.taken)

abbrev pub clear_looked : Step Turn → Seated → ℕ → Seated → Type 0
clear_looked st m r m' = m' ≡ (holding m.0 (SideKnown (r % 2)), m.1)

abbrev pub side_taken : Step Turn → Seated → ℕ → Seated → Type 0
side_taken st m r m' = (s : ℕ) → m.0.hold ≡ SideKnown s → (e : ℕ) × (m' ≡ (holding_at m.0 e (Clearing s (replicate (r / 2) Unseen)), m.1)) × (r / 2 ≤ m.0.places) × Reaches m.0.pushed e (r / 2) × (m.0.weight ≡ 1024 → e ≡ length m.0.taken)

abbrev pub marks_looked : Step Turn → Seated → ℕ → Seated → Type 0
marks_looked st m r m' = (kind : WalkKind) (side block end : ℕ) → IsBlock kind m st.word side block end → AreUnseen (64 * block) end (visits_of m.0.hold)
    → (AreSet (end - 64 * block) r → Goes (λ _. Marked) kind m m' side (64 * block) end) × (¬ AreSet (end - 64 * block) r → m' ≡ m)

abbrev pub value_read : Step Turn → Seated → ℕ → Seated → Type 0
value_read st m r m' = (i : ℕ) → IsValueOf m.0 st.word i → HasVisit m.0.hold i Marked → m' ≡ (holding m.0 (put_visit m.0.hold i (Read r)), m.1)

abbrev pub marks_wiped : Step Turn → Seated → ℕ → Seated → Type 0
marks_wiped st m r m' = (side block end : ℕ) → IsBlock clears m st.word side block end → AreRead (64 * block) end (visits_of m.0.hold)
    → Goes Wiped clears m m' side (64 * block) end × (values_in (visits_of m'.0.hold) ≡ values_in (visits_of m.0.hold))

abbrev pub IsClearing : Hold → Type 0
IsClearing (Clearing s visits) = Unit {0}
IsClearing _ = ⊥

abbrev pub turn_left : Step Turn → Seated → ℕ → Seated → Type 0
turn_left st m r m' = (m' ≡ (leaving m.0, [])) × (m.0.weight ≡ 1024 → IsClearing m.0.hold → (h : ℕ → ℕ) → weigh_pushes h m.0.pushed ≡ weigh_walks h m'.0.taken)
    × (m.0.weight ≡ 1024 → (s : ℕ) (visits : List Visit) → m.0.hold ≡ Reading s visits → (h : ℕ → ℕ) → weigh_pushes h m.0.pushed ≡ weigh h (values_in visits) + weigh_walks h m.0.taken)
    × Finds m.0.pushed (walk m.0.epoch (values_in (visits_of m.0.hold)))

abbrev pub turn_given_back : Step Turn → Seated → ℕ → Seated → Type 0
turn_given_back st m r m' = m' ≡ (holding m.0 Nothing, [])
