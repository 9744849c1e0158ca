-- Handles that a thread keeps for its look-ups.
use Rattle.std.specs.Prelude.{◌≡◌, ◌⊎◌, ℕ, ⊤, List, [], ◌∷◌, ◌++◌, Some, None}
use Rattle.std.specs.Borrow.{RattleType, MutBor, Fml}
use mathlib.Core.Option.{none}
use denote.Follow.{follows_so}
use Rattle.metrics_names.specs.Names.{KeyParts, key_eq}
use Rattle.metrics_registry.specs.Held.{held}

-- a recorder, the epoch in which handles were asked of it, and for each kind the keys that were looked up with their handles
pub record Kept (S C G H : Type 0) : Type 0 where
  pub on : S
  pub epoch : ℕ
  pub counters : List (KeyParts × C)
  pub gauges : List (KeyParts × G)
  pub histograms : List (KeyParts × H)

-- no handles, from an epoch on
abbrev pub nothing_on : {S C G H : Type 0} → S → ℕ → Kept S C G H
nothing_on on epoch = record { on = on; epoch = epoch; counters = []; gauges = []; histograms = [] }

-- all is kept, or nothing since the recorder is in another epoch
abbrev pub IsOfEpoch : {S C G H : Type 0} → Kept S C G H → Kept S C G H → Type 0
IsOfEpoch old new = (new ≡ old) ⊎ ((epoch : ℕ) × ¬ (epoch ≡ old.epoch) × (new ≡ nothing_on old.on epoch))

-- the handle that a key finds is one that was given for it
abbrev pub AreGiven : {H : Type 0} → (KeyParts → H → Type 0) → List (KeyParts × H) → Type 0
AreGiven {H} gives es = (key : KeyParts) (h : H) → held key_eq es key ≡ Some h → gives key h

-- the handle is the one that the key finds, or the key found none and finds this one from now on
abbrev pub Finds : {H : Type 0} → KeyParts → H → List (KeyParts × H) → List (KeyParts × H) → Type 0
Finds key h old new =
    ((held key_eq old key ≡ Some h) × (new ≡ old)) ⊎ ((held key_eq old key ≡ None) × (new ≡ old ++ (key, h) ∷ []))

-- one look-up among the handles of a kind, after a look at the epoch: the handle was given for the key, and all else stays
abbrev pub LooksUp : {S C G H X : Type 0} → (Kept S C G H → List (KeyParts × X)) → (Kept S C G H → List (KeyParts × X) → Kept S C G H)
    → (S → KeyParts → X → Type 0) → KeyParts → X → Kept S C G H → Kept S C G H → Type 0
LooksUp {S} {C} {G} {H} part with_part gives key h old new = gives old.on key h
    × ((now : Kept S C G H) × IsOfEpoch old now × Finds key h (part now) (part new) × (new ≡ with_part now (part new)))

abbrev pub FindsCounter : {S C G H : Type 0} → (S → KeyParts → C → Type 0) → KeyParts → C → Kept S C G H → Kept S C G H → Type 0
FindsCounter {S} {C} {G} {H} gives key h old new =
    LooksUp {S = S} {C = C} {G = G} {H = H} {X = C} (λ k. k.counters) (λ k es. record k { counters = es }) gives key h old new

abbrev pub FindsGauge : {S C G H : Type 0} → (S → KeyParts → G → Type 0) → KeyParts → G → Kept S C G H → Kept S C G H → Type 0
FindsGauge {S} {C} {G} {H} gives key h old new =
    LooksUp {S = S} {C = C} {G = G} {H = H} {X = G} (λ k. k.gauges) (λ k es. record k { gauges = es }) gives key h old new

abbrev pub FindsHistogram : {S C G H : Type 0} → (S → KeyParts → H → Type 0) → KeyParts → H → Kept S C G H → Kept S C G H → Type 0
FindsHistogram {S} {C} {G} {H} gives key h old new =
    LooksUp {S = S} {C = C} {G = G} {H = H} {X = H} (λ k. k.histograms) (λ k es. record k { histograms = es }) gives key h old new

-- ---- what a call left of its `&mut`, from which its result borrows

-- once that borrow has ended
abbrev pub ends_so : (R : RattleType) → MutBor R.Denot → (R.Denot → Type 0) → Fml
ends_so R lender P = follows_so R R lender.ghost_name none (λ _ _. ⊤) P
