-- The runs so far.
use Rattle.std.proofs.Common.{map, take}
use Rattle.tool_state.specs.Held.{recorded}
use Rattle.tool_state.specs.Written.{Adds}
use Rattle.tool_state.proofs.writing.add_runs.Given as goal

abbrev pub invariant-loop-times : goal.invariant-loop-times
invariant-loop-times l = Adds (map (recorded l.unit l.key) (take l.times-index l.runs)) l.initial.body l.body
