use Rattle.std.proofs.Common.{◌≡◌, ◌∙◌, ◌<◌, ◌+◌, ◌*◌, take, length, get_or, subst, sym, ap, arith}
use Rattle.std.specs.Char.{digit_value}
use Rattle.std.proofs.lemmas.Int.Digits.{digits_value_more}
use Rattle.std.proofs.lemmas.Str.Parse.{digit_at}
use Rattle.tool_numbers.proofs.DigitLemmas.{digits-next, digits-small}
use Rattle.tool_numbers.proofs.numerals.value_of.Goals as goal

pub returns-in_default : goal.returns-in_default
returns-in_default c = λ h.
    c.in_default.ensures (digit_at c.args.digits.now c.loop-byte.byte-index h (omega (arith, c.loop-byte-test.true)))

pub overflow_mul-n : goal.overflow_mul-n
overflow_mul-n c =
    let inv = c.loop-byte.invariant in
    omega (arith, digits-small c.args.digits.now c.loop-byte.byte-index c.loop-byte.n (omega (arith, c.loop-byte-test.true)) c.requires inv.0 inv.1)

pub overflow_add-n : goal.overflow_add-n
overflow_add-n c =
    let inv = c.loop-byte.invariant in
    omega (arith, c.in-Some.ensures.2, digits-small c.args.digits.now c.loop-byte.byte-index c.loop-byte.n (omega (arith, c.loop-byte-test.true)) c.requires inv.0 inv.1)

pub loop-byte-preserved : goal.loop-byte-preserved
loop-byte-preserved c =
    let ds = c.args.digits.now in
    let i = c.loop-byte.byte-index in
    let inv = c.loop-byte.invariant in
    let small : i < length ds = omega (arith, c.loop-byte-test.true) in
    let digit = c.in-Some.ensures.1 in
    let low : digit_value (get_or ds i 0) < 10 = subst (λ z. z < 10) digit c.in-Some.ensures.2 in
    (digits-next ds i small inv.0 low, (λ k. inv.1 k * 10 + digit k) ∙ sym (digits_value_more 10 ds i small))
