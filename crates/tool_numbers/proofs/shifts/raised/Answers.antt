use Rattle.std.proofs.Common.{◌^◌, arith}
use Rattle.tool_numbers.proofs.ShiftLemmas.{too-large}
use Rattle.tool_numbers.proofs.shifts.raised.Goals as goal

pub returns-in_default : goal.returns-in_default
returns-in_default c = too-large c.args.n (10 ^ c.args.by) (omega (arith, c.if-n-eq0.false)) c.in_default.ensures
