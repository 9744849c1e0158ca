-- The labels so far, in order, and the common ones to come.
use Rattle.std.proofs.Common.{◌≡◌, drop}
use Rattle.std.specs.List.Sorted.{IsSorted}
use Rattle.metrics_names.specs.Names.{label_cmp}
use Rattle.tool_requests.specs.Lines.{with_labels}
use Rattle.tool_requests.proofs.labels.with_labels.Given as goal

abbrev pub invariant-loop-label : goal.invariant-loop-label
invariant-loop-label l =
    record {
      made : with_labels (drop l.label-index l.common) l.all.items ≡ with_labels l.common l.fn.own.items;
      sorted : IsSorted label_cmp l.all.items;
    }
