use Rattle.std.proofs.Common.{string_bytes}
use Rattle.metrics_exporter.specs.Choice.{bounds_in}
use Rattle.tool_state.proofs.WrittenLemmas.{state-made}
use Rattle.tool_state.proofs.writing.write_state.Goals as goal

pub returns : goal.returns
returns c = state-made c.args.title.now (string_bytes c.in_ok-text_of.field-0) c.args.on.now (bounds_in c.bounds.result.now) c.in_ok-series.series.items c.deref.result.now c.deref-2.result.now
    c.new-told.result c.add_notes.new.told c.descriptions.result.now c.new-body.result c.add_notes.new.body c.add_readings.new.body c.bounds.ensures
    c.deref.ensures.value c.deref-2.ensures.value c.in_ok-series.ensures.readings c.new-told.ensures c.new-body.ensures.0 c.new-body.ensures.1 c.descriptions.ensures
    c.in_ok-add_notes.ensures.adds c.in_ok-add_notes.ensures.same c.in_ok-add_readings.ensures c.in_ok-text_of.ensures
