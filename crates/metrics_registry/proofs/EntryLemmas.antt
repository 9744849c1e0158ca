-- The cell of a key that an entry was found for, or was made for.
use Rattle.std.proofs.Common.{◌≡◌, Option, None, Some}
use Rattle.std.specs.Option.{unwrap_or}
use Rattle.metrics_registry.specs.Held.{IsCellOf}

pub cell_of-or : {C : Type 0} (found : Option C) (made cell : C) → cell ≡ unwrap_or found made → IsCellOf (λ c. c ≡ made) found cell
cell_of-or None made cell e = e
cell_of-or (Some c) made cell e = e
