-- What is noted of counters, by key.
use Rattle.std.specs.Prelude.{◌≡◌, ℕ, ◌%◌, ◌^◌, ◌≤◌, Bool, true, false, Option, Some, IfSome, IsSomeAnd, option_map}
use Rattle.std.specs.HashMap.{get}
use Rattle.metrics_counts.specs.Counting.{IsWordOf}
use Rattle.metrics_counts.specs.Noted.{Noted, is_late}
use Rattle.metrics_counts.specs.declared.notes.CountNotes.{CountNotes}

abbrev pub noted_of : {K : Type 0} → (K → K → Bool) → CountNotes K → K → Option Noted
noted_of same r key = get same r.notes key

-- what was noted still is, with a total that is no less
abbrev pub IsNoLess : Option Noted → Option Noted → Type 0
IsNoLess old new = IfSome old (λ n. IsSomeAnd new (λ m. n.total ≤ m.total))

-- the count is the remainder of the total that is noted
abbrev pub IsCountOf : Option Noted → ℕ → Type 0
IsCountOf new count = (m : Noted) × (new ≡ Some m) × IsWordOf m.total count

-- the count is the noted one, and more than the timeout passed since it was found changed
abbrev pub IsIdle : Option ℕ → ℕ → Option Noted → Option Noted → Type 0
IsIdle timeout now old new =
    (t : ℕ) × (n : Noted) × (m : Noted) × (timeout ≡ Some t) × (old ≡ Some n) × (new ≡ Some m)
    × (m.total % 2 ^ 64 ≡ n.total % 2 ^ 64) × (is_late t n.since now ≡ true)

-- the count is the one that was noted, and more than the timeout passed since it was found changed
abbrev pub IsLateCount : Option ℕ → ℕ → Option Noted → ℕ → Type 0
IsLateCount timeout now old count =
    (t : ℕ) × (n : Noted) × (timeout ≡ Some t) × (old ≡ Some n) × IsWordOf n.total count × (is_late t n.since now ≡ true)

-- what is noted of the other keys stays
abbrev pub OthersStay : {K : Type 0} → (K → K → Bool) → K → (K → Option Noted) → (K → Option Noted) → Type 0
OthersStay {K} same key old new = (q : K) → same key q ≡ false → new q ≡ old q

abbrev pub total_of_note : Option Noted → Option ℕ
total_of_note n = option_map (λ m. m.total) n
