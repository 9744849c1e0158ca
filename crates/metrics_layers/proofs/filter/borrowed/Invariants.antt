use Rattle.std.proofs.Common.{◌≡◌, map, take}
use Rattle.metrics_layers.proofs.filter.borrowed.Given as goal

abbrev pub invariant-loop-pattern : goal.invariant-loop-pattern
invariant-loop-pattern l = map (λ p. p.now) l.texts.items ≡ take l.pattern-index l.patterns
