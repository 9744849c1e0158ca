use Rattle.std.proofs.Common.{◌≡◌, ◌+◌, length, take}
use Rattle.std.specs.List.{sum_by}
use Rattle.prefix_match.proofs.substring.are_within_limit.Given as goal

abbrev pub invariant-loop-pattern : goal.invariant-loop-pattern
invariant-loop-pattern l = l.left + sum_by (λ p. length p.now) (take l.pattern-index l.patterns) ≡ 1048576
