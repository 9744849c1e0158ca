use denote.RattleType.{RattleType}
use denote.Param.Send.{IsSync}
use Rattle.core.specs.declared.alloc.Allocator.{Ghosts}
use Rattle.metrics_storage.specs.contracts.places.Allocation.{the_row}
use Rattle.metrics_storage.proofs.Crossing.{Allocation-sync}

pub sync : (R A : RattleType) (g : Ghosts A.Denot) → IsSync (the_row R A g)
sync = Allocation-sync
