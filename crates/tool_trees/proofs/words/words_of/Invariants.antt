-- The words so far, and what is left.
use Rattle.std.proofs.Common.{length}
use Rattle.tool_trees.proofs.Lines.{WordsSoFar}
use Rattle.tool_trees.proofs.words.words_of.Given as goal

abbrev pub invariant-loop-rest : goal.invariant-loop-rest
invariant-loop-rest g l = WordsSoFar g.T.Word.is g.T.Word.spelled l.bytes l.rest l.read.items

abbrev pub decreases-loop-rest : goal.decreases-loop-rest
decreases-loop-rest g l = length l.rest
