use Rattle.tool_grammar.proofs.WordsLemmas.{no_handle}
use Rattle.tool_grammar.proofs.calls.handle_and_rest.Goals as goal

pub returns-in_err-handle : goal.returns-in_err-handle
returns-in_err-handle c = rw c.from_residual-in_err-handle.ensures (no_handle _ _ _ c.in_ok-word.ensures.0 c.in_ok-word.ensures.1 (c.in_err-handle.ensures))
