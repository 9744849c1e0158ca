-- A counter's total, of which its word is the remainder modulo 2^64.
use Rattle.std.specs.Prelude.{◌≡◌, ℕ, ◌+◌, ◌%◌, ◌^◌, ◌≤◌, List}
use Rattle.std.specs.List.{sum_by}
use mathlib.Core.Option.{some}
use lib.ListN.{get_elem?}
use Rattle.metrics_counts.specs.declared.view.View.{View}

-- the total: what all seats added
abbrev pub total_of : List View → ℕ
total_of views = sum_by (λ v. v.added) views

-- the word is that of this total
abbrev pub IsWordOf : ℕ → ℕ → Type 0
IsWordOf total word = word ≡ total % 2 ^ 64

-- no seat has seen more
abbrev pub AllBelow : ℕ → List View → Type 0
AllBelow total views = (seat : ℕ) (v : View) → get_elem? views seat ≡ some v → v.seen ≤ total

-- the word is that of the total, and no seat has seen more
abbrev pub IsCounted : ℕ → List View → Type 0
IsCounted word views = IsWordOf (total_of views) word × AllBelow (total_of views) views

-- a seat that has seen and added nothing
abbrev pub first_view : View
first_view = record { seen = 0; added = 0 }

-- a step found a total, and the seat added this amount to it
abbrev pub WasAdded : ℕ → View → ℕ → View → Type 0
WasAdded amount before found after = (total : ℕ) × (before.seen ≤ total) × IsWordOf total found × (after.seen ≡ total + amount) × (after.added ≡ before.added + amount)
