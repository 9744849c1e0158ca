-- Histories of a chain of buckets, and their law.
use Rattle.std.specs.Prelude.{◌≡◌, ◌==◌, if◌then◌else◌, ℕ, ◌+◌, ◌<◌, List, [], ◌∷◌, ◌++◌, slice_set}
use mathlib.Core.Option.{some}
use lib.ListN.{get_elem?}
use Rattle.metrics_bucket.specs.declared.view.View.{View}
use Rattle.metrics_bucket.specs.BucketState.{BucketState, total, walk, Act, finish, state_after}
use Rattle.metrics_bucket.specs.Facts.{stands, taken_of}
use Rattle.metrics_bucket.specs.History.{Event, May, Runs, start, opened}
use Rattle.metrics_bucket.specs.BucketLaw.{IsSound, push_and_clear, by_first}

-- a segment of the chain
pub record Link : Type 0 where
  pub places : ℕ
  pub state : BucketState

-- an event in the segment of this number, or a new segment with so many places at the end
pub data Move : Type 0 where
  inside : ℕ → Event → Move
  link : ℕ → Move

abbrev pub link_after : Link → Event → View → Link
link_after l e v = record { places = l.places; state = state_after l.places l.state e.by v e.act }

abbrev pub new_link : (ℕ → BucketState) → ℕ → Link
new_link first places = record { places = places; state = first places }

-- The moves go from these segments to those. A new segment has the state `first` of its places
abbrev pub ChainRuns : ℕ → (ℕ → BucketState) → List Link → List Move → List Link → Type 0
ChainRuns all first ls [] ls' = ls ≡ ls'
ChainRuns all first ls (inside i e ∷ moves) ls' =
    (l : Link) × (v : View) × (get_elem? ls i ≡ some l) × (get_elem? l.state.views e.by ≡ some v) × (0 < v.weight) × May l.places all l.state e.by v e.act
    × ChainRuns all first (slice_set ls i (link_after l e v)) moves ls'
ChainRuns all first ls (link places ∷ moves) ls' = ChainRuns all first (ls ++ new_link first places ∷ []) moves ls'

-- the events in the segment of this number
abbrev pub history_of : ℕ → List Move → List Event
history_of i [] = []
history_of i (inside j e ∷ moves) = if i == j then e ∷ history_of i moves else history_of i moves
history_of i (link places ∷ moves) = history_of i moves

-- the weight of the value of a push that the step finishes
abbrev pub finished_by : (ℕ → ℕ) → Act → ℕ
finished_by h (finish s i x) = h x
finished_by h _ = 0

-- the weights of the values of the pushes that were finished in one segment
abbrev pub finished_in : (ℕ → ℕ) → List Event → ℕ
finished_in h [] = 0
finished_in h (e ∷ events) = finished_by h e.act + finished_in h events

-- and in all
abbrev pub finished : (ℕ → ℕ) → List Move → ℕ
finished h [] = 0
finished h (inside i e ∷ moves) = finished_by h e.act + finished h moves
finished h (link places ∷ moves) = finished h moves

-- the weights of the values that have mark 1 in a segment, or were wiped there
abbrev pub in_place : (ℕ → ℕ) → Link → ℕ
in_place h l = stands h l.state.values l.state.marks + total (taken_of h) l.state.views

abbrev pub in_all : (ℕ → ℕ) → List Link → ℕ
in_all h [] = 0
in_all h (l ∷ ls) = in_place h l + in_all h ls

-- what holds of a segment: its own events led to its state, the law of one bucket holds of them, and what they finished is in place there
pub record IsLawful (all : ℕ) (first : ℕ → BucketState) (history : List Event) (l : Link) : Type 0 where
  pub runs : Runs l.places all (first l.places) history l.state
  pub sound : IsSound l.places all history l.state
  pub own : (h : ℕ → ℕ) → finished_in h history ≡ in_place h l

-- Over every list of moves from an empty chain each segment is lawful, and what was finished is what is in place in all segments
abbrev pub IsLaw : ℕ → (ℕ → BucketState) → Type 0
IsLaw all first = (moves : List Move) (ls : List Link) → ChainRuns all first [] moves ls
    → ((i : ℕ) (l : Link) → get_elem? ls i ≡ some l → IsLawful all first (history_of i moves) l) × ((h : ℕ → ℕ) → finished h moves ≡ in_all h ls)

abbrev pub all_inside : ℕ → List Event → List Move
all_inside i [] = []
all_inside i (e ∷ events) = inside i e ∷ all_inside i events

-- a chain of two segments in which 5 is pushed and cleared in the second, so that the law isn't vacuous: there a thread took
-- 5, and the first segment is as it began
abbrev pub TwoSegments : Type 0
TwoSegments = (ls : List Link) × ChainRuns 1 (λ places. start places 1) [] (link 2 ∷ link 1 ∷ all_inside 1 (by_first push_and_clear)) ls
    × (get_elem? ls 0 ≡ some (new_link (λ places. start places 1) 2))
    × ((w : BucketState) × (v : View) × (get_elem? ls 1 ≡ some record { places = 1; state = w }) × (get_elem? w.views 0 ≡ some v) × (v.taken ≡ walk 0 (5 ∷ []) ∷ []))

-- The law of chains whose segments begin with any number of threads, and of those that begin with one whole thread each
abbrev pub ChainLaw : Type 0
ChainLaw = ((threads : ℕ) → IsLaw threads (λ places. start places threads)) × IsLaw 1024 opened × TwoSegments
