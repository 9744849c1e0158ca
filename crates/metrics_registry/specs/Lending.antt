-- Borrowing a cell.
use Rattle.std.specs.Prelude.{◌≡◌, Bool, List, Option, Some, IsSome}
use Rattle.std.specs.Borrow.{LendsSo, MutBor, Fml, RattleType}
use Rattle.std.specs.HashMap.Lent.{HashMembers}
use Rattle.std.specs.Map.{keys_of}
use Rattle.metrics_registry.specs.contracts.cells.Cells.{the_row}
use Rattle.metrics_registry.specs.Held.{held, Sets}

-- a key that is held has w as its cell; keys and other cells stay
abbrev pub Writes : {K C : Type 0} → (K → K → Bool) → K → List (K × C) → C → List (K × C) → Type 0
Writes eq key old w new = (IsSome (held eq old key) → Sets eq key (Some w) old new) × (keys_of new ≡ keys_of old)

module _ (K C : RattleType) (members : HashMembers K.Denot) where
  abbrev pub cells_row : RattleType
  cells_row = the_row K C (record { hash_input = members.hash_input }) (record { eq = members.eq })

  -- the cell of the key ends as the last value of r; at `None` all stays
  abbrev pub lends_cell : MutBor (List (K.Denot × C.Denot)) → K.Denot → Option (MutBor C.Denot) → Fml
  lends_cell cells key r = LendsSo cells_row C cells r (λ new w. Writes members.eq key cells.now w new) (λ new. new ≡ cells.now)
