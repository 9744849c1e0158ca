-- Handles, and by which recorders they are given for which keys.
use Rattle.std.specs.Prelude.{◌≡◌, ℕ, List, [], ◌∷◌, Some, slice_get}
use Rattle.metrics_names.specs.Names.{KeyParts}
use Rattle.metrics_rules.specs.Visits.{key_at}
use Rattle.metrics_layered.specs.declared.handles.Handles.{Handles}
use Rattle.metrics_layered.specs.declared.handles.Handles.TheVariants.{Noop, One, Several}

-- the handles, one for each target
abbrev pub handles_of : {H : Type 0} → Handles H → List H
handles_of Noop = []
handles_of (One h) = h ∷ []
handles_of (Several all) = all.items

-- the recorder of the target's leaf gives the handle for the target's key, which has the labels of the call
abbrev pub IsGiven : {R H : Type 0} → (R → KeyParts → H → Type 0) → List R → List (List ℕ × List ℕ) → ℕ × List ℕ → H → Type 0
IsGiven {R = R} gives recorders labels t h =
    (r : R) × (slice_get recorders t.0 ≡ Some r) × gives r (key_at labels t) h

-- the handles are those of these targets, in order, and there is one for each
abbrev pub AreGiven : {R H : Type 0} → (R → KeyParts → H → Type 0) → List R → List (List ℕ × List ℕ) → List (ℕ × List ℕ) → List H → Type 0
AreGiven gives recorders labels [] [] = Unit {0}
AreGiven gives recorders labels [] (h ∷ hs) = ⊥
AreGiven gives recorders labels (t ∷ ts) [] = ⊥
AreGiven gives recorders labels (t ∷ ts) (h ∷ hs) = IsGiven gives recorders labels t h × AreGiven gives recorders labels ts hs
