use Rattle.tool_grammar.proofs.WordsLemmas.{no_name, no_note}
use Rattle.tool_grammar.proofs.calls.described.Goals as goal

pub returns-in_err-name : goal.returns-in_err-name
returns-in_err-name c = rw c.from_residual-in_err-name.ensures (λ name unit text is utf8 e. no_name _ _ _ c.in_ok-word.ensures.0 c.in_ok-word.ensures.1 (c.in_err-name.ensures) name _ is e)

pub returns-in_err-unit : goal.returns-in_err-unit
returns-in_err-unit c = rw c.from_residual-in_err-unit.ensures (no_note _ _ _ c.in_ok-word.ensures.0 c.in_ok-word.ensures.1 (c.in_err-unit.ensures))
