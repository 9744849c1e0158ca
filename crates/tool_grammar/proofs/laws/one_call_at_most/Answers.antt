use Rattle.tool_grammar.proofs.CallLemmas.{call_same}
use Rattle.tool_grammar.proofs.laws.one_call_at_most.Goals as goal

pub returns : goal.returns
returns c = call_same
