-- A visit: which targets a visitor was shown, in which order, and where it ended.
use Rattle.std.specs.Prelude.{◌≡◌, ◌⊎◌, ℕ, ◌+◌, ◌<◌, ◌≤◌, ◌^◌, List, ◌∷◌, length, take, drop, Result, Ok, Err}
use Rattle.std.specs.List.{FoldsTo}
use Rattle.metrics_names.specs.Names.{KeyParts}
use Rattle.metrics_names.specs.declared.refused.Refused.{Refused}
use Rattle.metrics_names.specs.declared.refused.Refused.TheVariants.{Memory}
use Rattle.metrics_rules.specs.declared.visitor.Stopped.{Stopped}

-- the key of a target, which has the labels of the call
abbrev pub key_at : List (List ℕ × List ℕ) → ℕ × List ℕ → KeyParts
key_at labels t = record { name = t.1; labels = labels }

-- a target was shown: its leaf, and its key
abbrev pub shown : {V : Type 0} → (V → ℕ → KeyParts → V → Type 0) → List (List ℕ × List ℕ) → V → ℕ × List ℕ → V → Type 0
shown accepts labels v t w = accepts v t.0 (key_at labels t) w

-- the visitor refused the first of the targets that were left, or a prefix found no memory for the names below it, which nobody
-- was shown
abbrev pub StopsAt : {V : Type 0} → (V → ℕ → KeyParts → Refused → V → Type 0) → List (List ℕ × List ℕ) → List (ℕ × List ℕ) → V → Refused → V → Type 0
StopsAt refuses labels left w e v =
    ((t : ℕ × List ℕ) × (more : List (ℕ × List ℕ)) × (left ≡ t ∷ more) × refuses w t.0 (key_at labels t) e v)
    ⊎ ((v ≡ w) × (e ≡ Memory 0))

-- the first targets were shown and accepted, and then the visit ended
pub record EndsEarly {V : Type 0} (accepts : V → ℕ → KeyParts → V → Type 0) (refuses : V → ℕ → KeyParts → Refused → V → Type 0) (labels : List (List ℕ × List ℕ))
    (was : V) (ts : List (ℕ × List ℕ)) (now : V) (s : Stopped) : Type 0 where
  pub last : V
  pub most : s.accepted ≤ length ts
  pub accepted : FoldsTo (shown accepts labels) was (take s.accepted ts) last
  pub stops : StopsAt refuses labels (drop s.accepted ts) last s.refused now

-- the result of a visit, where so many targets had accepted before
abbrev pub after_more : ℕ → Result ℕ Stopped → Result ℕ Stopped
after_more more (Ok n) = Ok (more + n)
after_more more (Err s) = Err (record { accepted = more + s.accepted; refused = s.refused })

-- the sum fits
abbrev pub FitsMore : ℕ → Result ℕ Stopped → Type 0
FitsMore more (Ok n) = more + n < 2 ^ 64
FitsMore more (Err s) = more + s.accepted < 2 ^ 64

-- all targets were shown, in order, and accepted; or some from the first on were, and then no more
abbrev pub Visits : {V : Type 0} → (V → ℕ → KeyParts → V → Type 0) → (V → ℕ → KeyParts → Refused → V → Type 0) → List (List ℕ × List ℕ) → V → List (ℕ × List ℕ) → V → Result ℕ Stopped → Type 0
Visits accepts refuses labels was ts now (Ok n) = (n ≡ length ts) × FoldsTo (shown accepts labels) was ts now
Visits accepts refuses labels was ts now (Err s) = EndsEarly accepts refuses labels was ts now s

-- a target as a list has it: its leaf, and its key
abbrev pub listed : List (List ℕ × List ℕ) → ℕ × List ℕ → ℕ × KeyParts
listed labels t = (t.0, key_at labels t)
