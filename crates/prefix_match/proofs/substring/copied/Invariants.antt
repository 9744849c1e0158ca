use Rattle.std.proofs.Common.{◌≡◌, map, length, take, vec_len}
use Rattle.std.specs.List.{sum_by}
use Rattle.prefix_match.proofs.substring.copied.Given as goal

abbrev pub invariant-loop-pattern : goal.invariant-loop-pattern
invariant-loop-pattern l = record {
  bytes : map (λ p. p.items) l.kept.items ≡ map (λ p. p.now) (take l.pattern-index l.patterns);
  len : sum_by (λ p. vec_len p) l.kept.items ≡ sum_by (λ p. length p.now) (take l.pattern-index l.patterns);
}
