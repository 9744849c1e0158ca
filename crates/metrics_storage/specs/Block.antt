-- What holds of the fields of a block.
use Rattle.std.specs.Prelude.{◌≡◌, ◌≤◌, length}
use Rattle.metrics_storage.specs.declared.block.Block.TheInside.{Inside}

-- the length counts the values, and the three parts are of the same memory
pub record IsBlock {T : Type 0} (b : Inside T) : Type 0 where
  pub len : b.len ≡ length b.places.values
  pub fits : b.len ≤ 64
  pub places : b.places.at ≡ b.start.ptr
  pub allocation : (b.allocation.at ≡ b.start.ptr) × (b.allocation.alloc ≡ b.alloc)
