-- A `&` to an allocation holds nothing. Assumes `Logic`.
use denote.RattleType.{RattleType}
use denote.RawPtr.{RawPtr}
use denote.Param.Laws.{Laws}
use denote.Param.Shared.{copy_shared}
use denote.SharingLaws.{nothing_shr_laws}
use denote.Struct.Laws.{field_copy}
use denote.Struct.Lending.{of_Lends, Lends-nothing}
use Rattle.core.specs.declared.alloc.Allocator.{Ghosts}
use Rattle.core.specs.contracts.marker.PhantomData as marker
use Rattle.metrics_storage.specs.contracts.places.Allocation as Allocation
use Rattle.metrics_storage.proofs.places.Allocation.TheLaw.Statement.{statement}

pub shares : (R A : RattleType) (g : Ghosts A.Denot) (L : Laws R) (K : Laws A) → statement R A g L K
shares R A g L K =
    let codes = Allocation.the_codes R.Denot A.Denot R.coded A.coded (marker.the_row RawPtr).coded in
    let mark = copy_shared (marker.the_field RawPtr) (field_copy (marker.the_type RawPtr) tt) in
    of_Lends (Allocation.struct R A g) codes (Allocation.the_heap R A g) (Allocation.the_lent R A g) (λ d p. nothing_shr_laws) (mark, tt)
    (λ M 𝓤 𝓛 d p. Lends-nothing 𝓛 (Allocation.the_heap R A g d) (Allocation.the_row R A g).lives)
