-- What is noted of one counter.
use Rattle.std.specs.Prelude.{ℕ, ◌-◌, Bool, false, Option, None, Some, nat_lt}

-- the total that was seen, and the moment at which its count was found changed: None if no reading that succeeded has shown it
pub record Noted : Type 0 where
  pub total : ℕ
  pub since : Option ℕ

-- whether more than the timeout passed since the count was found changed; a moment that goes back counts as zero
abbrev pub is_late : ℕ → Option ℕ → ℕ → Bool
is_late timeout None now = false
is_late timeout (Some since) now = nat_lt timeout (now - since)
