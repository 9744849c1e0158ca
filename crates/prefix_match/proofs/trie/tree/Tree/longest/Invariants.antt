use Rattle.std.proofs.Common.{ℕ, ◌-◌, ◌<◌, List, Option, length}
use Rattle.prefix_match.specs.TrieTree.{Begins, Best, path_at}
use Rattle.prefix_match.specs.declared.trie.tree.Node.{Node}
use Rattle.prefix_match.proofs.trie.tree.Tree.longest.Given as goal

-- the node is on the way along the text, and the best is that of the way to it
pub record OnWay (nodes : List Node) (text : List ℕ) (node : ℕ) (best : Option ℕ) : Type 0 where
  pub within : node < length nodes
  pub begins : Begins (path_at nodes node) text
  pub is_best : Best nodes text (length (path_at nodes node)) best

abbrev pub invariant-loop-child : goal.invariant-loop-child
invariant-loop-child l = OnWay l.self.nodes.items l.text l.node l.best

abbrev pub decreases-loop-child : goal.decreases-loop-child
decreases-loop-child l = length l.text - length (path_at l.self.nodes.items l.node)
