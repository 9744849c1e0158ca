-- The labels so far are in order.
use Rattle.std.proofs.Common.{◌≡◌, false}
use Rattle.std.specs.List.{AllAdjacentBelow}
use Rattle.std.specs.Ordering.{is_lt}
use Rattle.metrics_names.specs.Names.{label_cmp}
use Rattle.metrics_names.proofs.label.are_sorted.Given as goal

abbrev pub invariant-loop-i : goal.invariant-loop-i
invariant-loop-i l = AllAdjacentBelow (λ a b. is_lt (label_cmp b a) ≡ false) l.fn.labels l.i
