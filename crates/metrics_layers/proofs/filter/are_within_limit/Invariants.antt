use Rattle.std.proofs.Common.{◌≡◌, ℕ, ◌+◌, length, take}
use Rattle.std.specs.List.{sum_by}
use Rattle.metrics_layers.proofs.filter.are_within_limit.Given as goal

abbrev pub invariant-loop-pattern : goal.invariant-loop-pattern
invariant-loop-pattern l = l.left + sum_by (length {A = ℕ}) (take l.pattern-index l.patterns) ≡ 1048576
