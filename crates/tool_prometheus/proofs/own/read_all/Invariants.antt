-- The readings so far.
use Rattle.std.proofs.Common.{◌≡◌, take}
use Rattle.metrics_exporter.specs.Readings.{all_read, keyed_readings}
use Rattle.tool_prometheus.proofs.own.read_all.Given as goal

abbrev pub invariant-loop-one : goal.invariant-loop-one
invariant-loop-one l = keyed_readings l.all.items ≡ all_read (take l.one-index l.held)
