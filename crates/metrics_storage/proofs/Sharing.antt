-- A `&` to the places of a block is made from one to a value. Assumes `Logic`.
use Prim.Native.Nat.{ℕ, zero, suc, ◌+◌}
use Rattle.std.specs.Prelude.{List, [], ◌∷◌}
use Rattle.std.specs.Mem.{type_size}
use seplogic.Ra.Ura.{Ura}
use base.Fraction.{full_share}
use base.Fml.{Lft, Incl, ffalse}
use types.Logic.{Logic}
use denote.RattleType.{RattleType, RowLaws}
use denote.Memory.{part_at, shared_of}
use denote.Param.Laws.{Laws}
use denote.RawPtr.{Ptr, block_ptr, null_ptr}
use denote.Sharing.{ShrLaws, said}
use denote.SharingLaws.{beside_shr_laws, said_shr_laws}
use denote.Shares.{Shares-less}
use denote.Slice.{elements_shared, elements_shr_laws}
use denote.Struct.Lending.{Lends, Lends-both, Lends-nothing, Lends-said, Lends-false}
use Rattle.metrics_storage.specs.Ownership.{places, fits, places_own, places_lent}

pub lent-laws : (R : RattleType) → RowLaws R → (p : Ptr) (xs : List R.Denot) → ShrLaws (places_lent R p xs)
lent-laws R L null_ptr xs = said_shr_laws ffalse tt
lent-laws R L (block_ptr b o) xs = beside_shr_laws (said (fits R)) (elements_shared R xs b o) (said_shr_laws (fits R) tt) (elements_shr_laws R L xs b o)

module _ {M : Type 1} {𝓤 : Ura M} (𝓛 : Logic 𝓤) (l : Lft) (R : RattleType) (L : Laws R) (inc : Incl l R.lives) where
  -- the values are borrowed one by one, and the room after them stays
  Lends-values : (n b o : ℕ) (xs : List R.Denot) → Lends 𝓛 (places R b o n xs) (elements_shared R xs b o) l
  Lends-values n b o [] = Lends-nothing 𝓛 (places R b o n []) l
  Lends-values zero b o (x ∷ xs) = Lends-false 𝓛 (elements_shared R (x ∷ xs) b o) l
  Lends-values (suc n) b o (x ∷ xs) =
      let on = o + type_size R in
      Lends-both 𝓛 (part_at R full_share x b o) (places R b on n xs) (shared_of R x b o) (elements_shared R xs b on) l (λ κ ts. Shares-less 𝓛 R R.lives l inc (L.shares 𝓛) x κ ts b o) (Lends-values n b on xs)

  pub Lends-places : (p : Ptr) (xs : List R.Denot) → Lends 𝓛 (places_own R p xs) (places_lent R p xs) l
  Lends-places null_ptr xs = Lends-false 𝓛 (said ffalse) l
  Lends-places (block_ptr b o) xs = Lends-both 𝓛 (fits R) (places R b o 64 xs) (said (fits R)) (elements_shared R xs b o) l (Lends-said 𝓛 (fits R) tt l) (Lends-values 64 b o xs)
