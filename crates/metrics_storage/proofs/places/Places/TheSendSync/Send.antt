use denote.RattleType.{RattleType}
use denote.Param.Send.{IsSend}
use Rattle.metrics_storage.specs.contracts.places.Places.{the_row}
use Rattle.metrics_storage.proofs.Crossing.{Places-send}

pub send : (R : RattleType) → IsSend R → IsSend (the_row R)
send = Places-send
