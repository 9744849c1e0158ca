use Rattle.std.proofs.Common.{arith, inl, inr}
use Rattle.tool_grammar.proofs.NumberLemmas.{no_negated}
use Rattle.tool_grammar.proofs.numbers.negated.Goals.{then-n-eq0-via-then-n-eq0, then-n-eq0-via-else-n-eq0+then-n}
use Rattle.tool_grammar.proofs.numbers.negated.Goals as goal

pub returns-then-n-eq0 : goal.returns-then-n-eq0
returns-then-n-eq0 c = no_negated c.args.n c.ranges.n.fits (elim c.then-n-eq0.branch [
  | then-n-eq0-via-then-n-eq0 w ↦ inl (omega (arith, w.if-n-eq0.true))
  | then-n-eq0-via-else-n-eq0+then-n w ↦ inr (omega (arith, w.if-n.true))
])
