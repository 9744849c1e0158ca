use Rattle.std.proofs.Common.{◌≡◌, map, take}
use Rattle.metrics_layers.proofs.filter.copied.Given as goal

abbrev pub invariant-loop-pattern : goal.invariant-loop-pattern
invariant-loop-pattern l = l.kept.items ≡ map (λ p. p.now) (take l.pattern-index l.patterns)
