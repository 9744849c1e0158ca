use denote.Param.Send.{IsSend}
use base.Shift.{Keyless}
use Rattle.core.specs.Prelude.{ℕ, Bool, true, false}
use types.Keyed.{entry_keyless}
use Rattle.atomic_table.specs.Seated.{halved}
use Rattle.metrics_counts.specs.declared.view.View.{View}
use Rattle.metrics_counts.specs.Owning.{seat_owns}
use Rattle.metrics_counts.specs.contracts.seat.Seat.{the_row}

keyless : (has_stepped : Bool) (name id : ℕ) (v : View) → Keyless (seat_owns has_stepped name id v)
keyless true name id v = entry_keyless halved name id _
keyless false name id v = λ _. tt

pub send : IsSend the_row
send = record { owned = λ d vs. ((λ vss. (tt, ((λ uss. (tt, tt)), tt))), keyless d.has_stepped d.cell d.id d.view); leaving = λ k f vs. tt }
