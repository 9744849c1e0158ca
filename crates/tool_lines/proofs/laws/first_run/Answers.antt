use Rattle.tool_lines.proofs.FirstRun.{first}
use Rattle.tool_lines.proofs.laws.first_run.Goals as goal

pub returns : goal.returns
returns c = first
