use Rattle.std.proofs.Common.{◌+◌, ◌≤◌, map, take, vec_len}
use Rattle.std.specs.List.{sum_by}
use Rattle.prefix_match.specs.Substring.{lowered}
use Rattle.prefix_match.specs.SubstringStates.{IsTrie}
use Rattle.prefix_match.proofs.substring.trie.grown.Given as goal

abbrev pub invariant-loop-pattern : goal.invariant-loop-pattern
invariant-loop-pattern l = record {
  trie : IsTrie (map (λ p. lowered l.fold_case p.items) (take l.pattern-index l.patterns)) l.nodes.items;
  room : vec_len l.nodes ≤ 1 + sum_by (λ p. vec_len p) (take l.pattern-index l.patterns);
}
