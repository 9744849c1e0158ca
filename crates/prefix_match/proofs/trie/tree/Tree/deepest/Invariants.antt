use Rattle.std.proofs.Common.{ℕ, ◌-◌, ◌<◌, List, length}
use Rattle.prefix_match.specs.TrieTree.{Begins, path_at}
use Rattle.prefix_match.specs.declared.trie.tree.Node.{Node}
use Rattle.prefix_match.proofs.trie.tree.Tree.deepest.Given as goal

-- the node is on the way along the text
pub record OnWay (nodes : List Node) (text : List ℕ) (node : ℕ) : Type 0 where
  pub within : node < length nodes
  pub begins : Begins (path_at nodes node) text

abbrev pub invariant-loop-child : goal.invariant-loop-child
invariant-loop-child l = OnWay l.self.nodes.items l.text l.node

abbrev pub decreases-loop-child : goal.decreases-loop-child
decreases-loop-child l = length l.text - length (path_at l.self.nodes.items l.node)
