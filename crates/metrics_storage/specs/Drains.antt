-- What a drain of a reservoir reports.
use Rattle.std.specs.Prelude.{if◌then◌else◌, ◌≡◌, ℕ, ℤ, List, [], ◌∷◌, length, Option, None, Some, nat_eq}
use Rattle.metrics_storage.specs.Sample.{Sampled}

-- the values that are still to come, how many were held and pushed, and the sum of the pushed
pub record Drained : Type 0 where
  pub left : List ℤ
  pub held : ℕ
  pub pushed : ℕ
  pub total : ℤ

abbrev pub drain_of : Sampled → Drained
drain_of s = record { left = s.held; held = length s.held; pushed = s.pushed; total = s.total }

-- how many of how many, and one of one if none was dropped
abbrev pub rate_of : Drained → ℕ × ℕ
rate_of d = if nat_eq d.held d.pushed then (1, 1) else (d.held, d.pushed)

-- the next value
abbrev pub drain_step : Drained → Option ℤ → Drained → Type 0
drain_step old None new = (old.left ≡ []) × (new ≡ old)
drain_step old (Some x) new = (old.left ≡ x ∷ new.left) × (new ≡ record old { left = new.left })
