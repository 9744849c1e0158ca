-- The runs so far.
use Rattle.std.proofs.Common.{◌≡◌, take, length}
use Rattle.tool_state.specs.Runs.{samples_in}
use Rattle.tool_state.proofs.totals.count_all.Given as goal

abbrev pub invariant-loop-times : goal.invariant-loop-times
invariant-loop-times l = l.count ≡ length (samples_in (take l.times-index l.runs))
