use Rattle.std.proofs.Common.{◌≡◌, drop}
use Rattle.std.specs.Cmp.Lexicographic.{pointwise}
use Rattle.metrics_names.proofs.shared_items.SharedItemsPartialEq.eq.Given as goal

-- those from i on have the result of all
abbrev pub invariant-loop-i : goal.invariant-loop-i
invariant-loop-i g l =
    let same = pointwise g.T.PartialEq.eq in
    same (drop l.i l.items) (drop l.i l.others) ≡ same l.items l.others
