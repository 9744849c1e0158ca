-- The meaning of a tally.
use Rattle.std.specs.Prelude.{◌≡◌, ℕ, ◌+◌, ◌%◌, ◌^◌}
use Rattle.tool_storm.specs.declared.tally.Tally.{Tally}

-- this number and this sum
abbrev pub Tells : Tally → ℕ → ℕ → Type 0
Tells t count sum = (t.count ≡ count % 2 ^ 64) × (t.sum ≡ sum % 2 ^ 64)

-- u has so many values more than t, with this sum
abbrev pub Adds : Tally → ℕ → ℕ → Tally → Type 0
Adds t count sum u = (u.count ≡ (t.count + count) % 2 ^ 64) × (u.sum ≡ (t.sum + sum) % 2 ^ 64)
