-- The series so far.
use Rattle.std.proofs.Common.{take}
use Rattle.metrics_exporter.specs.Readings.{all_read}
use Rattle.tool_state.specs.Written.{AddsNotes}
use Rattle.tool_state.proofs.WrittenLemmas.{AllSame}
use Rattle.tool_state.proofs.notes.add_notes.Given as goal

abbrev pub invariant-loop-one : goal.invariant-loop-one
invariant-loop-one l = record {
  adds : AddsNotes l.initial.told l.told l.initial.body l.body;
  same : AllSame l.told l.on (all_read (take l.one-index l.series));
}
