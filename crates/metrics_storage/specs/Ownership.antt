-- What the 64 places of a block own and lend, at values of the row R.
use Rattle.std.specs.Prelude.{ℕ, zero, suc, ◌+◌, ◌*◌, ◌^◌, List, [], ◌∷◌}
use Rattle.std.specs.Mem.{type_size}
use base.Fraction.{full_share}
use base.Fml.{Lft, Fml, ffalse, fsep, flt, froom}
use mir.Syntax.{Ty, ty_array}
use mir.Raw.{raw}
use denote.RattleType.{RattleType}
use denote.Memory.{lone, part_at}
use denote.Sharing.{said, beside}
use denote.Slice.{elements_shared}
use denote.RawPtr.{Ptr, block_ptr, null_ptr}

module _ (R : RattleType) where
  -- n places from byte o of the memory block b on: the first hold the values, and the others are room
  abbrev pub places : ℕ → ℕ → ℕ → List R.Denot → Fml
  places b o n [] = froom (raw (ty_array (lone R.mir) n)) b o
  places b o zero (x ∷ xs) = ffalse
  places b o (suc n) (x ∷ xs) = fsep (part_at R full_share x b o) (places b (o + type_size R) n xs)

  -- 64 places take fewer than 2 ^ 63 bytes
  abbrev pub fits : Fml
  fits = flt (64 * type_size R) (2 ^ 63)

  abbrev pub places_own : Ptr → List R.Denot → Fml
  places_own (block_ptr b o) xs = fsep fits (places b o 64 xs)
  places_own null_ptr xs = ffalse

  -- a `&` to the places lends each value
  abbrev pub places_lent : Ptr → List R.Denot → Lft → Fml
  places_lent (block_ptr b o) xs = beside (said fits) (elements_shared R xs b o)
  places_lent null_ptr xs = said ffalse

  -- the allocator's token for 64 places
  abbrev pub allocation_owns : (Ty → Ptr → Fml) → Ptr → Fml
  allocation_owns token p = token (raw (ty_array (lone R.mir) 64)) p
