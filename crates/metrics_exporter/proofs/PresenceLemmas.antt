-- Whether a series is held.
use Rattle.std.proofs.Common.{◌≡◌, ◌∙◌, Option, None, Some, is_some, option_map, refl, sym, ap, Bor}
use Rattle.std.specs.Option.{option_copied}

some-mapped : {A B : Type 0} (f : A → B) (o : Option A) → is_some (option_map f o) ≡ is_some o
some-mapped f None = refl
some-mapped f (Some a) = refl

-- a cell by reference is there if the cell is
pub some-cell : {A B : Type 0} (f : A → B) (seen : Option (Bor A)) (held : Option A) → option_copied seen ≡ held
    → is_some seen ≡ is_some (option_map f held)
some-cell f seen held is = sym (some-mapped (λ x. x.now) seen) ∙ ap is_some is ∙ sym (some-mapped f held)
