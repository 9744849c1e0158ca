-- The rows so far have such a first label's key.
use Rattle.std.proofs.Common.{take}
use Rattle.std.specs.Prelude.{All}
use Rattle.metrics_prometheus.specs.Places.{IsLed}
use Rattle.metrics_prometheus.proofs.rows.have_key.Given as goal

abbrev pub invariant-loop-row : goal.invariant-loop-row
invariant-loop-row l = All (IsLed l.labels) (take l.row-index l.rows)
