-- The runs so far.
use Rattle.std.proofs.Common.{◌≡◌, take}
use Rattle.metrics_storage.specs.Histogram.{at_most}
use Rattle.tool_state.specs.Runs.{samples_in}
use Rattle.tool_state.proofs.totals.count_at_most.Given as goal

abbrev pub invariant-loop-times : goal.invariant-loop-times
invariant-loop-times l = l.count ≡ at_most l.bound (samples_in (take l.times-index l.runs))
