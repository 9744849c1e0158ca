use Rattle.tool_numbers.proofs.PartLemmas.{no-negative}
use Rattle.tool_numbers.proofs.numerals.whole_of.Goals as goal

pub returns-in-None-number_of : goal.returns-in-None-number_of
returns-in-None-number_of c = no-negative c.args.bytes.now c.in-Some.digits.now c.in-Some.ensures c.in-None-number_of.ensures
