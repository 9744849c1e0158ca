use Rattle.std.proofs.Common.{◌∷◌, ◌∙◌, refl, ap, arith}
use Rattle.tool_numbers.specs.Numerals.{raised, raised_plus, lowered}
use Rattle.tool_numbers.proofs.numerals.power_of.Goals as goal

pub returns-in-Some-exponent_of : goal.returns-in-Some-exponent_of
returns-in-Some-exponent_of c =
    let f = c.in-Some-exponent_of.ensures in
    (raised_plus c.in-Some-strip_prefix.digits.now, f.0, c.in-Some.ensures ∙ ap (λ z. 101 ∷ z) c.in-Some-strip_prefix.ensures, f.1, refl, f.2, omega arith)

pub returns-in-Some-exponent_of-2 : goal.returns-in-Some-exponent_of-2
returns-in-Some-exponent_of-2 c =
    let f = c.in-Some-exponent_of-2.ensures in
    (lowered c.in-Some-strip_prefix-2.digits.now, f.0, c.in-Some.ensures ∙ ap (λ z. 101 ∷ z) c.in-Some-strip_prefix-2.ensures, refl, f.1, omega arith, f.2)

pub returns-in-Some-exponent_of-3 : goal.returns-in-Some-exponent_of-3
returns-in-Some-exponent_of-3 c =
    let f = c.in-Some-exponent_of-3.ensures in
    (raised c.in-Some.rest.now, f.0, c.in-Some.ensures, f.1, refl, f.2, omega arith)
