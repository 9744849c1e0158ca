-- So much of the line was read.
use Rattle.tool_stream.proofs.Reading.{Reading}
use Rattle.tool_stream.proofs.stream.rest_of_line.Given as goal

abbrev pub invariant-loop : goal.invariant-loop
invariant-loop g l = Reading (g.I.Read.remaining l.initial.input) (g.I.Read.remaining l.input) l.initial.line.items l.line.items
