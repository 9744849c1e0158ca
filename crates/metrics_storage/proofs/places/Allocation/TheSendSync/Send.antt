use denote.RattleType.{RattleType}
use denote.Param.Send.{IsSend, Frees}
use Rattle.core.specs.declared.alloc.Allocator.{Ghosts}
use Rattle.metrics_storage.specs.contracts.places.Allocation.{the_row}
use Rattle.metrics_storage.proofs.Crossing.{Allocation-send}

pub send : (R A : RattleType) (g : Ghosts A.Denot) → IsSend A → Frees g g.dealloc_token → IsSend (the_row R A g)
send R A g s = Allocation-send R A g
