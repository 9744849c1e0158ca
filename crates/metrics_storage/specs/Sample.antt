-- What a reservoir holds, one push, and any list of pushes.
use Rattle.std.specs.Prelude.{◌≡◌, ℕ, ◌+◌, ℤ, pos, ◌+ℤ◌, List, [], ◌∷◌, map, length}
use Rattle.metrics_storage.specs.Histogram.{sum_of}
use Rattle.metrics_storage.specs.Reservoir.{place_step, held_after}

-- how many places there are, what they hold, how many values were pushed, and their sum
pub record Sampled : Type 0 where
  pub places : ℕ
  pub held : List ℤ
  pub pushed : ℕ
  pub total : ℤ

abbrev pub new_sample : ℕ → Sampled
new_sample places = record { places = places; held = []; pushed = 0; total = pos 0 }

-- one push of a value with its draw
abbrev pub after_push : ℤ → ℕ → Sampled → Sampled
after_push v d s = record { places = s.places; held = place_step s.places s.pushed v d s.held; pushed = s.pushed + 1; total = s.total +ℤ v }

abbrev pub after_pushes : List (ℤ × ℕ) → Sampled → Sampled
after_pushes [] s = s
after_pushes (push ∷ pushes) s = after_pushes pushes (after_push push.0 push.1 s)

-- over every list of pushes into a new reservoir: the places, and the number and the sum of the values
abbrev pub PushesAddUp : Type 0
PushesAddUp =
    (k : ℕ) (pushes : List (ℤ × ℕ)) → after_pushes pushes (new_sample k)
    ≡ record { places = k; held = held_after k pushes; pushed = length pushes; total = sum_of (map (λ push. push.0) pushes) }
