use Rattle.std.proofs.Common.{arith}
use Rattle.tool_state.proofs.WrittenLemmas.{adds-parts}
use Rattle.tool_state.proofs.body.push_line.Goals as goal

pub returns : goal.returns
returns c = λ e says. adds-parts e c.args.line.now _ _ _ _ c.in_ok-push_text.ensures (omega (arith, c.in-Some.ensures)) says
