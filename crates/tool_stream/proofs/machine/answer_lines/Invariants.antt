-- The lines so far were read and answered.
use Rattle.tool_stream.proofs.Loop.{SoFar}
use Rattle.tool_stream.proofs.machine.answer_lines.Given as goal

abbrev pub invariant-loop : goal.invariant-loop
invariant-loop g l = SoFar g.M.LineMachine.answers g.M.LineMachine.is_bad l.takes_partial (g.I.Read.remaining l.initial.input) (g.I.Read.remaining l.input) (g.O.Write.contents l.initial.output) (g.O.Write.contents l.output)
    l.waiting.items (l.initial.on, l.initial.notes) (l.on, l.notes) l.first l.count l.number
