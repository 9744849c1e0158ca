-- The trees so far.
use Rattle.tool_lines.proofs.TreesSoFar.{TreesSoFar}
use Rattle.tool_lines.proofs.trees.tree.Given as goal

abbrev pub invariant-loop-number : goal.invariant-loop-number
invariant-loop-number g l = TreesSoFar (g.I.Read.remaining l.fn.input) (g.I.Read.remaining l.input) l.stack.items l.number
