-- The lines so far, and what is left.
use Rattle.std.proofs.Common.{length}
use Rattle.tool_state.proofs.EntryLemmas.{LinesSoFar}
use Rattle.tool_state.proofs.reading.do_lines.Given as goal

abbrev pub invariant-loop-rest : goal.invariant-loop-rest
invariant-loop-rest l = LinesSoFar l.bytes l.rest l.number l.initial.on l.on

abbrev pub decreases-loop-rest : goal.decreases-loop-rest
decreases-loop-rest l = length l.rest
