-- The runs so far.
use Rattle.std.proofs.Common.{◌≡◌, take}
use Rattle.metrics_storage.specs.Histogram.{sum_of}
use Rattle.tool_state.specs.Runs.{samples_in}
use Rattle.tool_state.proofs.totals.sum_all.Given as goal

abbrev pub invariant-loop-times : goal.invariant-loop-times
invariant-loop-times l = l.sum ≡ sum_of (samples_in (take l.times-index l.runs))
