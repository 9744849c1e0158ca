use Rattle.std.proofs.Common.{arith}
use Rattle.tool_grammar.proofs.NumberLemmas.{no_signed}
use Rattle.tool_grammar.proofs.numbers.signed.Goals as goal

pub returns-else-n : goal.returns-else-n
returns-else-n c = no_signed c.args.n c.ranges.n.fits (omega (arith, c.if-n.false))
