use Rattle.tool_grammar.proofs.GrammarLemmas.{no_amount}
use Rattle.tool_grammar.proofs.calls.update_call_of.Goals as goal

pub returns-in_err-by : goal.returns-in_err-by
returns-in_err-by c = rw c.from_residual-in_err-by.ensures (no_amount _ _ _ _ c.in_ok-handle.ensures.0 c.in_ok-handle.ensures.1 c.in_err-by.ensures)
