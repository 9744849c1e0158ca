-- It owns nothing, so any thread may share it.
use denote.Param.Send.{IsSync, part_keyless}
use Rattle.metrics_collector.specs.contracts.note.KeyNote.{the_row}
use Rattle.metrics_collector.proofs.note.KeyNote.TheSendSync.Send.{send}

pub sync : IsSync the_row
sync = record { shared = λ d b o κ q. part_keyless the_row send q d b o }
