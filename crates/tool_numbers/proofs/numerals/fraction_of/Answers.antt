use Rattle.std.proofs.Common.{refl, length, arith}
use Rattle.tool_numbers.proofs.DigitLemmas.{value-small, some-length}
use Rattle.tool_numbers.proofs.PartLemmas.{some-point}
use Rattle.tool_numbers.proofs.numerals.fraction_of.Goals as goal

pub returns-in-Some-value_of : goal.returns-in-Some-value_of
returns-in-Some-value_of c =
    let ds = c.in-Some.digits.now in
    let f = c.in-Some-value_of.ensures in (
      ds,
      (f.0, omega (arith, c.if-digits-gt18.false)),
      some-point c.args.bytes.now ds c.in-Some.ensures (some-length c.is_empty-2.result ds c.is_empty-2.ensures c.if-is_empty-2.false),
      refl,
      f.1,
      value-small ds c.in-Some-value_of.value (length ds) f.0 (omega arith) f.1,
    )
