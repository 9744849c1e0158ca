-- So far nothing was asked.
use Rattle.tool_prometheus.specs.Asked.{Asks, nothing_asked}
use Rattle.tool_prometheus.proofs.watching.Watch.tell_left_out.Given as goal

abbrev pub invariant-loop-place : goal.invariant-loop-place
invariant-loop-place g l = Asks (g.S.Surroundings.asked l.initial.around) (g.S.Surroundings.asked l.around) nothing_asked
