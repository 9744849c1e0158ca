-- Entries at places.
use Rattle.std.proofs.Common.{◌≡◌, ℕ, zero, suc, List, [], ◌∷◌, Some, refl, slice_get, is_some}
use Rattle.std.specs.Map.{values_of}

-- the entry of a value that is at a place
pub entry-of-value : {K C : Type 0} (es : List (K × C)) (i : ℕ) (c : C) → slice_get (values_of es) i ≡ Some c → (e : K × C) × (slice_get es i ≡ Some e) × (e.1 ≡ c)
entry-of-value [] i c is = cc is
entry-of-value (e ∷ es) zero c is = (e, refl, cc is)
entry-of-value (e ∷ es) (suc i) c is = entry-of-value es i c is

pub is-some-value : {K C : Type 0} (es : List (K × C)) (i : ℕ) → is_some (slice_get (values_of es) i) ≡ is_some (slice_get es i)
is-some-value [] i = refl
is-some-value (e ∷ es) zero = refl
is-some-value (e ∷ es) (suc i) = is-some-value es i
