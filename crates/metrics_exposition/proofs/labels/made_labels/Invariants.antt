-- The labels so far, and those to come.
use Rattle.std.proofs.Common.{◌≡◌, drop, take}
use Rattle.std.specs.Prelude.{All}
use Rattle.std.specs.Str.{IsUtf8}
use Rattle.std.specs.List.Sorted.{IsSorted}
use Rattle.metrics_names.specs.Names.{label_cmp}
use Rattle.metrics_exposition.specs.Labels.{with_labels, shown_labels}
use Rattle.metrics_exposition.proofs.labels.made_labels.Given as goal

abbrev pub invariant-loop-label : goal.invariant-loop-label
invariant-loop-label l =
    record {
      shown : with_labels l.shown.items (drop l.label-index l.labels) ≡ shown_labels l.labels;
      sorted : IsSorted label_cmp l.shown.items;
      texts : All (λ m. IsUtf8 m.1) (take l.label-index l.labels);
    }
