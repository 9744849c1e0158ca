-- The labels so far, in order, and what is left.
use Rattle.std.proofs.Common.{length}
use Rattle.std.specs.List.Sorted.{IsSorted}
use Rattle.metrics_names.specs.Names.{label_cmp}
use Rattle.tool_requests.proofs.LabelLemmas.{LabelsSoFar}
use Rattle.tool_requests.proofs.labels.labels_of.Given as goal

abbrev pub invariant-loop-rest : goal.invariant-loop-rest
invariant-loop-rest l = record { read : LabelsSoFar l.bytes l.rest l.labels.items; sorted : IsSorted label_cmp l.labels.items }

abbrev pub decreases-loop-rest : goal.decreases-loop-rest
decreases-loop-rest l = length l.rest
