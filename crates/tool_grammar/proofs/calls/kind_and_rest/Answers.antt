use Rattle.tool_grammar.proofs.WordsLemmas.{no_kind}
use Rattle.tool_grammar.proofs.calls.kind_and_rest.Goals as goal

pub returns-in_err-kind : goal.returns-in_err-kind
returns-in_err-kind c = rw c.from_residual-in_err-kind.ensures (no_kind _ _ _ c.in_ok-word.ensures.0 c.in_ok-word.ensures.1 (c.in_err-kind.ensures))
