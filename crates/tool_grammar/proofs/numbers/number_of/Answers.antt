use Rattle.std.proofs.Common.{◌∙◌, sym, arith}
use Rattle.tool_grammar.proofs.NumberLemmas.{digits_begin, digits_go_on, digits_end, no_digits, first_byte}
use Rattle.tool_grammar.proofs.numbers.number_of.Goals as goal

pub returns-in_err-first : goal.returns-in_err-first
returns-in_err-first c = rw c.from_residual.ensures (no_digits c.args.digits.now c.in_err-first.ensures.cases)

pub returns-in_err-n : goal.returns-in_err-n
returns-in_err-n c = rw c.from_residual-in_err-n.ensures (λ n fits is.
    first_byte c.in_ok-first.first.now c.in_ok-first.others.now c.in_err-n.ensures n fits (sym c.in_ok-first.ensures.cases.0 ∙ is))

pub loop-byte-init : goal.loop-byte-init
loop-byte-init c =
    let n = c.in_ok-n.ensures in
    c.in_ok-first.ensures.cases.0 ∙ digits_begin c.in_ok-first.others.now c.in_ok-first.first.now c.in_ok-n.n n.2 n.0 n.1

pub loop-byte-preserved : goal.loop-byte-preserved
loop-byte-preserved c = c.loop-byte.invariant ∙ digits_go_on c.in_ok-first.others.now c.loop-byte.byte-index c.loop-byte.n c.in_ok-n-2.n (omega (arith, c.loop-byte-test.true)) c.in_ok-n-2.ensures

pub returns-in_err-n-2 : goal.returns-in_err-n-2
returns-in_err-n-2 c = rw c.from_residual-in_err-n-2.ensures (digits_end c.args.digits.now c.in_ok-first.others.now c.loop-byte.byte-index c.loop-byte.n
    (omega (arith, c.loop-byte-test.true)) c.loop-byte.invariant c.in_err-n-2.ensures)
