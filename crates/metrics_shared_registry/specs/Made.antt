-- Cells that were made for their keys.
use Rattle.std.specs.Prelude.{◌≡◌, Bool, true, List, Some}
use Rattle.std.specs.List.{AllByRecursion}
use Rattle.metrics_registry.specs.Held.{held}

-- the cell is one that a storage makes for a key, whatever storage of its type it was
abbrev pub MadeBySome : {S K C : Type 0} → (S → K → C → Type 0) → K → C → Type 0
MadeBySome {S} Makes key cell = (storage : S) × Makes storage key cell

-- the cell is one that is made for a key equal to this one
abbrev pub IsMadeFor : {K C : Type 0} → (K → K → Bool) → (K → C → Type 0) → K → C → Type 0
IsMadeFor {K} eq Makes key cell = (asked : K) × (eq asked key ≡ true) × Makes asked cell

-- the cell that a key finds is made for that key
abbrev pub AreMade : {K C : Type 0} → (K → K → Bool) → (K → C → Type 0) → List (K × C) → Type 0
AreMade {K} {C} eq Makes es = (key : K) (cell : C) → held eq es key ≡ Some cell → IsMadeFor eq Makes key cell

-- each entry's cell is made for its key
abbrev pub EachIsMade : {K C : Type 0} → (K → K → Bool) → (K → C → Type 0) → List (K × C) → Type 0
EachIsMade eq Makes es = AllByRecursion (λ e. IsMadeFor eq Makes e.0 e.1) es

-- ---- in a registry

-- the cell is one that some storage makes for an equal key
abbrev pub FitsKey : {S K C : Type 0} → (K → K → Bool) → (S → K → C → Type 0) → K → C → Type 0
FitsKey eq Makes key cell = IsMadeFor eq (MadeBySome Makes) key cell

-- each entry's cell is one for its key
abbrev pub EachFits : {S K C : Type 0} → (K → K → Bool) → (S → K → C → Type 0) → List (K × C) → Type 0
EachFits eq Makes es = EachIsMade eq (MadeBySome Makes) es
