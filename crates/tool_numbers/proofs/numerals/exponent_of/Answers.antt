use Rattle.std.proofs.Common.{arith}
use Rattle.tool_numbers.proofs.DigitLemmas.{value-small, some-length}
use Rattle.tool_numbers.proofs.numerals.exponent_of.Goals as goal

pub overflow_cast-result : goal.overflow_cast-result
overflow_cast-result c =
    let f = c.in-Some.ensures in
    omega (arith, value-small c.args.digits.now c.in-Some.exponent 2 f.0 (omega (arith, c.if-digits-gt2.false)) f.1)

pub returns : goal.returns
returns c =
    let f = c.in-Some.ensures in
    let small = value-small c.args.digits.now c.in-Some.exponent 2 f.0 (omega (arith, c.if-digits-gt2.false)) f.1 in
    ((some-length c.is_empty.result c.args.digits.now c.is_empty.ensures c.if-is_empty.false, omega (arith, c.if-digits-gt2.false), f.0), f.1, omega (arith, small))
