-- The series so far have their readings, and those to come are given theirs.
use Rattle.std.proofs.Common.{◌≡◌, drop}
use Rattle.metrics_exporter.specs.Exporting.{Cells}
use Rattle.metrics_exporter.specs.Readings.{AreReadings, keyed_readings}
use Rattle.tool_prometheus.specs.Own.{with_own}
use Rattle.tool_prometheus.specs.OwnRows.{all_own}
use Rattle.tool_prometheus.proofs.own.set_own.Given as goal

abbrev pub invariant-loop-one : goal.invariant-loop-one
invariant-loop-one l = (cells : Cells) → AreReadings cells (keyed_readings l.initial.all.items) → (at : Cells)
    × AreReadings at (keyed_readings l.all.items)
    × (with_own (all_own (drop l.one-index l.own)) at ≡ with_own (all_own l.own) cells)
