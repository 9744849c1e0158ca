use Rattle.std.proofs.Common.{rules, ◌≡◌, ℕ, List, Option, None, Some, MatchOption, FitsSigned, w64, to_z, of_z, sym, subst}
use Rattle.std.specs.Prelude.{ℤ}
use Rattle.std.proofs.Math.Facts.{to_z-of_z}
use Rattle.tool_numbers.specs.Numerals.{IsNumber, signed}
use Rattle.tool_numbers.proofs.AmountLemmas.{plain-level, number-one}
use Rattle.tool_numbers.proofs.units.level_in.Goals as goal

-- the number of the units, if it fits
found : (places : ℕ) (word : List ℕ) (n : ℤ) → IsNumber places n word → (r : Option ℤ) → MatchOption r (FitsSigned w64 n → ⊥) (λ z. z ≡ n)
    → MatchOption r ((z : ℤ) → FitsSigned w64 z → IsNumber places z word → ⊥) (λ z. IsNumber places z word)
found places word n is (Some z) e = subst (λ (k : ℤ). IsNumber places k word) (sym e) is
found places word n is None fails = λ z fits h. fails (subst (FitsSigned w64) (number-one places z n word h is) fits)

pub returns-in-Some : goal.returns-in-Some
returns-in-Some c =
    let n : ℤ = c.in-Some.n in
    let fits : FitsSigned w64 n = search rules in
    let read : to_z w64 (of_z w64 n) ≡ n = to_z-of_z {w = w64} {z = n} fits in
    subst (λ (z : ℤ). IsNumber c.args.places z c.args.word.now) (sym read)
    (subst (λ places. IsNumber places n c.args.word.now) (sym c.if-places-eq0.true) (plain-level c.args.word.now n fits c.in-Some.ensures))

pub returns-in-Some-units_of : goal.returns-in-Some-units_of
returns-in-Some-units_of c =
    let f = c.in-Some-units_of in
    found c.args.places c.args.word.now (signed f.minus f.units) f.ensures c.small_level.result c.small_level.ensures
