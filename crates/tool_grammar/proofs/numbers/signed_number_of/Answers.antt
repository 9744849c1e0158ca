use Rattle.tool_grammar.proofs.NumberLemmas.{no_minus}
use Rattle.tool_grammar.proofs.numbers.signed_number_of.Goals as goal

pub returns-in_err-number_of-in-Some : goal.returns-in_err-number_of-in-Some
returns-in_err-number_of-in-Some c = rw c.from_residual-in_err-number_of-in-Some.ensures (no_minus c.args.word.now c.in-Some.digits.now c.in-Some.ensures c.in_err-number_of-in-Some.ensures)
