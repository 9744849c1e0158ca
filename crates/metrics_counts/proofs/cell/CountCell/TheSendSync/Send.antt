use denote.RattleType.{RattleType}
use denote.Param.Send.{IsSend}
use Rattle.metrics_counts.specs.Owning.{view_coded}
use Rattle.metrics_counts.specs.contracts.cell.CountCell.{the_row}
use Rattle.atomic_table.proofs.Sent.{roster_keyless}

pub send : (K : RattleType) → IsSend (the_row K)
send K = record { owned = λ d vs. ((λ _. tt), λ n. ((λ vss. (tt, ((tt, tt), ((λ uss. (tt, tt)), tt)))), λ views. (roster_keyless view_coded.code d.name 0 views, λ _. tt))); leaving = λ k d w. tt }
