use Rattle.std.proofs.Common.{◌∙◌, ◌+◌, ◌*◌, ◌^◌, ◌++◌, refl, arith}
use Rattle.tool_numbers.specs.Numerals.{Numeral}
use Rattle.tool_numbers.proofs.NumeralLemmas.{parts-same}
use Rattle.tool_numbers.proofs.PartLemmas.{none-empty}
use Rattle.tool_numbers.proofs.numerals.parts_of.Goals as goal

pub returns-in_default-clause-parts : goal.returns-in_default-clause-parts
returns-in_default-clause-parts c = λ n h e.
    let a = c.split_before in
    let b = c.split_before-2 in
    let same = parts-same c.args.word.now a.result.0.now a.result.1.now b.result.0.now b.result.1.now a.ensures.whole a.ensures.before a.ensures.others
    b.ensures.whole b.ensures.before b.ensures.others n h e in
    c.in_default.ensures n.minus n.whole h.0 same.0

pub returns-in_default-fraction_of-clause-parts : goal.returns-in_default-fraction_of-clause-parts
returns-in_default-fraction_of-clause-parts c = λ n h e.
    let a = c.split_before in
    let b = c.split_before-2 in
    let same = parts-same c.args.word.now a.result.0.now a.result.1.now b.result.0.now b.result.1.now a.ensures.whole a.ensures.before a.ensures.others
    b.ensures.whole b.ensures.before b.ensures.others n h e in
    c.in_default-fraction_of.ensures n.fraction h.1 same.1

pub returns-in_default-power_of-clause-parts : goal.returns-in_default-power_of-clause-parts
returns-in_default-power_of-clause-parts c = λ n h e.
    let a = c.split_before in
    let b = c.split_before-2 in
    let same = parts-same c.args.word.now a.result.0.now a.result.1.now b.result.0.now b.result.1.now a.ensures.whole a.ensures.before a.ensures.others
    b.ensures.whole b.ensures.before b.ensures.others n h e in
    c.in_default-power_of.ensures n.power h.2 same.2

pub returns-clause-parts : goal.returns-clause-parts
returns-clause-parts c =
    let (ds, fraction, point, places, value, below) = c.in-Some-fraction_of.ensures in
    let (power, is_power, rest, up, down, less, fewer) = c.in-Some-power_of.ensures in
    let n : Numeral = record { minus = c.in-Some.minus; whole = c.in-Some.whole; fraction = ds; power = power } in
    let number = c.split_before-2.ensures.whole ∙ (λ i. c.in-Some.ensures.0 i ++ point i) in (
      n,
      (c.in-Some.ensures.1, fraction, is_power),
      c.split_before.ensures.whole ∙ (λ i. number i ++ rest i),
      record {
        minus = refl;
        digits = c.joined.ensures ∙ (λ i. c.in-Some.whole * 10 ^ places i + value i);
        places = places;
        is_plain = none-empty power c.split_before.result.1.now rest c.is_empty.result c.is_empty.ensures;
        up = up;
        down = down;
      },
    )
