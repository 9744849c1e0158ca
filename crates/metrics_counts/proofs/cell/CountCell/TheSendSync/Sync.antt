use denote.RattleType.{RattleType}
use denote.Param.Send.{IsSync}
use Rattle.core.proofs.atomic.Sent.{chain-Keyless}
use Rattle.metrics_counts.specs.Owning.{view_coded}
use Rattle.metrics_counts.specs.contracts.cell.CountCell.{the_row}
use Rattle.atomic_table.proofs.Sent.{roster_keyless}

pub sync : (K : RattleType) → IsSync (the_row K)
sync K = record { shared = λ d b o κ α. ((λ νs. chain-Keyless νs κ α), λ n. (tt, λ views. (roster_keyless view_coded.code d.name 0 views, λ _. tt))) }
