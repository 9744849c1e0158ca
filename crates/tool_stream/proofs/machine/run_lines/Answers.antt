use Rattle.tool_stream.proofs.Loop.{all_read}
use Rattle.tool_stream.proofs.machine.run_lines.Goals as goal

pub returns : goal.returns
returns g c = all_read g.M.LineMachine.answers g.M.LineMachine.is_bad _ _ _ _ _ _ _ _ _ c.run_lines_leaving.ensures
