-- Errors after the first n targets were acted on.
use Rattle.std.specs.Prelude.{ℕ, ◌+◌, ◌<◌, ◌≤◌, ◌^◌}
use Rattle.metrics_names.specs.declared.refused.Refused.{Refused}
use Rattle.metrics_names.specs.declared.refused.Refused.TheVariants.{Memory, NoSuchAddress, NoSuchBook, BadHandle}

-- the error is out of memory, and this holds of how many targets were acted on before
abbrev pub IfMemory : Refused → (ℕ → Type 0) → Type 0
IfMemory (Memory acted) P = P acted
IfMemory e P = ⊥

-- the error of a call that had acted on this many targets before
abbrev pub after_front : ℕ → Refused → Refused
after_front front (Memory acted) = Memory (front + acted)
after_front front NoSuchAddress = NoSuchAddress
after_front front NoSuchBook = NoSuchBook
after_front front BadHandle = BadHandle

-- the count of targets fits
abbrev pub CanFollow : ℕ → Refused → Type 0
CanFollow front (Memory acted) = front + acted < 2 ^ 64
CanFollow front NoSuchAddress = Unit {0}
CanFollow front NoSuchBook = Unit {0}
CanFollow front BadHandle = Unit {0}

-- the count of targets doesn't fit
abbrev pub IsPast : ℕ → Refused → Type 0
IsPast front (Memory acted) = 2 ^ 64 ≤ front + acted
IsPast front NoSuchAddress = ⊥
IsPast front NoSuchBook = ⊥
IsPast front BadHandle = ⊥
