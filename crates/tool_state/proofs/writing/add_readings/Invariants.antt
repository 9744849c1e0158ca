-- The series so far.
use Rattle.std.proofs.Common.{take}
use Rattle.metrics_exporter.specs.Choice.{bounds_in}
use Rattle.metrics_exporter.specs.Readings.{all_read}
use Rattle.tool_state.specs.Written.{AddsReadings}
use Rattle.tool_state.proofs.writing.add_readings.Given as goal

abbrev pub invariant-loop-one : goal.invariant-loop-one
invariant-loop-one l = AddsReadings (bounds_in l.bounds) (all_read (take l.one-index l.series)) l.initial.body l.body
