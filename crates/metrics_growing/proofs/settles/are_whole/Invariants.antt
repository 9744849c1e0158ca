use Rattle.std.proofs.Common.{ℕ, ◌<◌, slice_index_or}
use Rattle.metrics_growing.specs.Parts.{Part, IsWhole}
use Rattle.metrics_growing.proofs.settles.are_whole.Given as goal

abbrev pub invariant-loop-at : goal.invariant-loop-at
invariant-loop-at l = (k : ℕ) (d : Part) → k < l.at → IsWhole (slice_index_or l.known k d)
