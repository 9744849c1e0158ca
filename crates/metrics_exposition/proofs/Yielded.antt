-- Items that are shown as they are.
use Rattle.std.proofs.Common.{◌≡◌, List, [], ◌∷◌, map, refl, ap}

pub as_they_are : {A : Type 0} (xs : List A) → xs ≡ map (λ x. x) xs
as_they_are [] = refl
as_they_are (x ∷ xs) = ap (λ l. x ∷ l) (as_they_are xs)
