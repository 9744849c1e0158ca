-- Where the books of several recorders are, each recorder's after those before it.
use Rattle.std.specs.Prelude.{◌≡◌, ℕ, ◌+◌, ◌<◌, ◌≤◌, List, ◌++◌, length, map, get_or, Result, Ok, Err}
use Rattle.std.specs.List.{All}
use Rattle.std.specs.List.Sorted.{IsNonDecreasing}
use Rattle.metrics.specs.Meaning.{Meaning}
use Rattle.metrics.specs.declared.handles.Address.{Address}
use Rattle.metrics_names.specs.declared.refused.Refused.{Refused}
use Rattle.metrics_names.specs.declared.refused.Refused.TheVariants.{Memory}
use Rattle.metrics_trees.specs.Recorders.{start}

-- numbers that ascend from 0
pub record Ascends (starts : List ℕ) : Type 0 where
  pub some : 0 < length starts
  pub first : get_or starts 0 0 ≡ 0
  pub rise : IsNonDecreasing starts

-- the last of them that is at most a number, by place
pub record IsLast (starts : List ℕ) (book n : ℕ) : Type 0 where
  pub within : n < length starts
  pub most : get_or starts n 0 ≤ book
  pub next : n + 1 < length starts → book < get_or starts (n + 1) 0

-- a recorder's number, and a book's number there
pub record IsPlace (all : List Meaning) (book : ℕ) (place : ℕ × ℕ) : Type 0 where
  pub recorder : place.0 < length all
  pub number : start place.0 all + place.1 ≡ book
  pub below : book < start (place.0 + 1) all

-- an address of a recorder that comes after so many books
abbrev pub raised_one : ℕ → Address → Address
raised_one front a = record { book = front + a.book; series = a.series }

abbrev pub raised : ℕ → List Address → List Address
raised front found = map (raised_one front) found

-- one recorder more answered after those before it, or failed, which leaves what was found. If its addresses find no memory its
-- call has acted too
abbrev pub IsAppended : {A : Type 0} → List Address → List Address → ℕ → Result (List Address) Refused → Result A Refused → Type 0
IsAppended old new front (Ok there) (Ok done) = new ≡ old ++ raised front there
IsAppended old new front (Ok there) (Err f) = (f ≡ Memory (length there)) × (new ≡ old)
IsAppended old new front (Err e) (Err f) = (f ≡ e) × (new ≡ old)
IsAppended old new front (Err e) (Ok done) = ⊥

-- the addresses can be raised: there are at most 65,536 books
pub record CanRaise (front : ℕ) (there : List Address) : Type 0 where
  pub front_fits : front ≤ 65536
  pub books_fit : All (λ a. a.book < 65536) there

-- the numbers fit
abbrev pub CanAppend : ℕ → Result (List Address) Refused → Type 0
CanAppend front (Ok there) = CanRaise front there
CanAppend front (Err e) = Unit {0}
