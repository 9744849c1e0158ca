use Rattle.tool_lines.proofs.Beginnings.{begins_whole}
use Rattle.tool_lines.proofs.laws.part_begins_whole.Goals as goal

pub returns : goal.returns
returns c = begins_whole
