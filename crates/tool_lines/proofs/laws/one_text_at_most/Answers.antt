use Rattle.tool_lines.proofs.OutputLemmas.{input_same, one_text}
use Rattle.tool_lines.proofs.laws.one_text_at_most.Goals as goal

pub returns-clause-input : goal.returns-clause-input
returns-clause-input c = input_same

pub returns-clause-text : goal.returns-clause-text
returns-clause-text c = one_text
