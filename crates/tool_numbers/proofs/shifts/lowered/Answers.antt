use Rattle.std.proofs.Common.{◌*◌, ◌<◌, ◌^◌, arith, ap, sym, subst, ◌∙◌}
use Rattle.tool_numbers.proofs.ShiftLemmas.{power-some, not-whole, no-rest}
use Rattle.tool_numbers.proofs.shifts.lowered.Goals as goal

pub returns-in_default : goal.returns-in_default
returns-in_default c = λ units small is.
    not-whole c.args.n (10 ^ c.args.by) (omega (arith, c.if-n-eq0.false)) (omega (arith, c.ranges.n.fits)) c.in_default.ensures units is

pub nonzero_rem-n : goal.nonzero_rem-n
nonzero_rem-n c = subst (λ z. 0 < z) (sym c.in-Some.ensures.1) (power-some c.args.by)

pub returns-then-n-power-ne0 : goal.returns-then-n-power-ne0
returns-then-n-power-ne0 c = λ units small is.
    no-rest c.args.n c.in-Some.power (omega (arith, c.if-n-power-ne0.true)) units (ap (λ z. units * z) c.in-Some.ensures.1 ∙ is)
