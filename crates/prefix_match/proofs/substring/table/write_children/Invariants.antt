use Rattle.prefix_match.proofs.SubstringRows.{IsWriting}
use Rattle.prefix_match.proofs.substring.table.write_children.Given as goal

abbrev pub invariant-loop-child : goal.invariant-loop-child
invariant-loop-child l = IsWriting l.nodes l.columns.of l.columns.width l.state l.row l.initial.next l.next l.child

abbrev pub decreases-loop-child : goal.decreases-loop-child
decreases-loop-child l = l.child
