use Rattle.tool_grammar.proofs.WordsLemmas.{no_unit}
use Rattle.tool_grammar.proofs.calls.unit_and_text.Goals as goal

pub returns-in_err-unit : goal.returns-in_err-unit
returns-in_err-unit c = rw c.from_residual-in_err-unit.ensures (λ unit text utf8 e. no_unit _ _ _ c.in_ok-word.ensures.0 c.in_ok-word.ensures.1 (c.in_err-unit.ensures) unit text e)
