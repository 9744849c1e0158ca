-- A `&` to the places reaches each value. Assumes `Logic`.
use mathlib.Core.List.{[], ◌++◌}
use base.Fml.{Incl-trans}
use contract.BorrowLft.{meet_⊑_left}
use denote.RattleType.{RattleType}
use denote.RawPtr.{RawPtr}
use denote.Param.Laws.{Laws}
use denote.Param.Shared.{copy_shared}
use denote.Struct.Laws.{field_copy}
use denote.Struct.Lending.{of_Lends}
use Rattle.core.specs.contracts.marker.PhantomData as marker
use Rattle.metrics_storage.specs.contracts.places.Places as Places
use Rattle.metrics_storage.proofs.places.Places.TheLaw.Statement.{statement}
use Rattle.metrics_storage.proofs.Sharing.{lent-laws, Lends-places}

pub shares : (R : RattleType) (L : Laws R) → statement R L
shares R L =
    let codes = Places.the_codes R.Denot R.coded (marker.the_row RawPtr).coded in
    let mark = copy_shared (marker.the_field RawPtr) (field_copy (marker.the_type RawPtr) tt) in
    of_Lends (Places.struct R) codes (Places.the_heap R) (Places.the_lent R) (λ d p. lent-laws R L.shr_laws d.at d.values) (mark, tt)
    (λ M 𝓤 𝓛 d p. Lends-places 𝓛 (Places.the_row R).lives R L (Incl-trans (meet_⊑_left (R.lives ++ []) _) (meet_⊑_left R.lives [])) d.at d.values)
