-- The buckets so far.
use Rattle.std.proofs.Common.{◌≡◌, ℕ, ◌<◌, get_or}
use Rattle.std.specs.Prelude.{ℤ}
use Rattle.metrics_storage.specs.Histogram.{at_most}
use Rattle.tool_state.specs.Runs.{samples_in}
use Rattle.tool_state.proofs.totals.has_counts.Given as goal

abbrev pub invariant-loop-bound : goal.invariant-loop-bound
invariant-loop-bound l = (k : ℕ) (d : ℤ × ℕ) → k < l.bound-index → (get_or l.buckets k d).1 ≡ at_most (get_or l.buckets k d).0 (samples_in l.runs)
