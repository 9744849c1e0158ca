use Rattle.tool_trees.proofs.OneListAtMost.{one_tree}
use Rattle.tool_trees.proofs.laws.one_tree_at_most.Goals as goal

pub returns : goal.returns
returns c = one_tree
