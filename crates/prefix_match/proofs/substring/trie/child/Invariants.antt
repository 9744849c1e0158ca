use Rattle.std.proofs.Common.{◌≡◌, ℕ, ◌<◌, ◌≤◌, length}
use Rattle.prefix_match.specs.SubstringStates.{node_at}
use Rattle.prefix_match.proofs.substring.trie.child.Given as goal

abbrev pub invariant-loop-sibling : goal.invariant-loop-sibling
invariant-loop-sibling l = record {
  within : l.sibling < length l.nodes;
  parent : 0 < l.sibling → (node_at l.nodes l.sibling).parent ≡ l.state;
  last : (c : ℕ) → 0 < c → c < length l.nodes → (node_at l.nodes c).parent ≡ l.state → (node_at l.nodes c).byte ≡ l.byte → c ≤ l.sibling;
}

abbrev pub decreases-loop-sibling : goal.decreases-loop-sibling
decreases-loop-sibling l = l.sibling
