use Rattle.std.proofs.Common.{arith}
use Rattle.tool_grammar.proofs.NumberLemmas.{not_after_zero, digit_after, too_large, digit_more}
use Rattle.tool_grammar.proofs.numbers.with_digit.Goals as goal

pub returns-then-n-eq0 : goal.returns-then-n-eq0
returns-then-n-eq0 c = λ m others. not_after_zero m c.args.n c.args.byte others (omega arith)

pub returns-in_err-digit : goal.returns-in_err-digit
returns-in_err-digit c = rw c.from_residual.ensures (λ m others fits is. c.in_err-digit.ensures (digit_after m c.args.n c.args.byte others fits is))

pub returns-in_err-checked_mul : goal.returns-in_err-checked_mul
returns-in_err-checked_mul c = rw c.from_residual-in_err-checked_mul.ensures
    (too_large c.args.n c.args.byte c.ranges.n.fits (λ fits. c.in_err-checked_mul.ensures (omega arith)))

pub returns : goal.returns
returns c =
    let d = c.in_ok-digit.ensures in
    digit_more c.args.n c.args.byte c.in_ok-digit.digit c.in_ok-checked_mul.field-0 c.checked_add.result
    (omega (arith, c.if-n-eq0.false)) c.ranges.n.fits d.0 d.1 d.2 (omega (arith, c.in_ok-checked_mul.ensures.1)) c.checked_add.ensures
