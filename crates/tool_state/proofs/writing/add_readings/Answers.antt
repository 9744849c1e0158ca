use Rattle.std.proofs.Common.{List, subst}
use Rattle.metrics_exporter.specs.Choice.{bounds_in}
use Rattle.metrics_exporter.specs.Readings.{KeyedReading}
use Rattle.tool_state.specs.Held.{MakeReading}
use Rattle.tool_state.specs.State.{Entry}
use Rattle.tool_state.specs.Written.{Adds}
use Rattle.tool_state.proofs.WrittenLemmas.{readings-none, readings-more}
use Rattle.tool_state.proofs.writing.add_readings.Goals as goal

pub loop-one-init : goal.loop-one-init
loop-one-init c = readings-none (bounds_in c.args.bounds.now) c.args.body.now

pub loop-one-preserved : goal.loop-one-preserved
loop-one-preserved c =
    let P : KeyedReading → Type 0 = λ k. (own : List Entry) × Adds own c.loop-one.body c.add_reading.new.body × MakeReading (bounds_in c.args.bounds.now) k own in
    readings-more (bounds_in c.args.bounds.now) c.args.series.now c.loop-one.one-index c.one-item.result c.args.body.now c.loop-one.body c.add_reading.new.body c.loop-one-test.true c.one-item.is c.loop-one.invariant
    (subst P c.reading.ensures c.in_ok-add_reading.ensures)
