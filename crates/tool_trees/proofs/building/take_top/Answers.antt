use Rattle.std.proofs.Common.{ap, arith, length, length-append}
use Rattle.tool_trees.proofs.building.take_top.Goals as goal

pub returns-in_default : goal.returns-in_default
returns-in_default c = λ bad. omega (arith, ap length c.loop-number.invariant.split, length-append c.loop-number.stack.items, c.in_default.ensures.cases.0, c.loop-number.stack.ok.0)
