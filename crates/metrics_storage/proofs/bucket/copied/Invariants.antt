use Rattle.std.proofs.Common.{List, ◌++◌, ◌≤◌, length, reverse}
use Rattle.std.specs.List.{AllZip}
use Rattle.metrics.specs.Book.{joined_lists}
use Rattle.metrics_storage.proofs.bucket.copied.Given as goal

-- what was shown and clones of the rest are clones of all
abbrev pub invariant-loop-newest : goal.invariant-loop-newest
invariant-loop-newest g l =
    ((ys : List _) → AllZip g.T.Clone.is_clone (joined_lists (reverse l.rest)) ys → AllZip g.T.Clone.is_clone (joined_lists (reverse l.fn.blocks)) (l.values.items ++ ys))
    × (length l.rest ≤ length l.fn.blocks)

abbrev pub decreases-loop-newest : goal.decreases-loop-newest
decreases-loop-newest g l = length l.rest
