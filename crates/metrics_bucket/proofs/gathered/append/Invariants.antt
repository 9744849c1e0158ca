use Rattle.std.proofs.Common.{◌≡◌, ◌++◌, take}
use Rattle.std.specs.Prelude.{vec_capacity}
use Rattle.metrics_bucket.proofs.gathered.append.Given as goal

abbrev pub invariant-loop-x : goal.invariant-loop-x
invariant-loop-x g l =
    (l.values.items ≡ l.initial.values.items ++ take l.x-index l.part)
    × (vec_capacity l.values ≡ vec_capacity l.initial.values)
