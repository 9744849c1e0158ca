use denote.RattleType.{RattleType}
use denote.Param.Send.{IsSync}
use Rattle.metrics_storage.specs.contracts.places.Places.{the_row}
use Rattle.metrics_storage.proofs.Crossing.{Places-sync}

pub sync : (R : RattleType) → IsSync R → IsSync (the_row R)
sync = Places-sync
