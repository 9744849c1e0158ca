use Rattle.std.proofs.Common.{◌≡◌, ℕ, ◌^◌, ◌<◌, List, Option, None, Some, MatchOption, sym, subst, arith}
use Rattle.std.specs.Prelude.{ℤ, pos}
use Rattle.tool_numbers.specs.Numerals.{IsNumber, signed}
use Rattle.tool_numbers.proofs.AmountLemmas.{plain-count, number-one}
use Rattle.tool_numbers.proofs.units.count_in.Goals as goal

-- the number of the units, if it is none below zero
found : (places : ℕ) (word : List ℕ) (n : ℤ) → IsNumber places n word → (r : Option ℕ) → MatchOption r ((m : ℕ) → pos m ≡ n → ⊥) (λ m. pos m ≡ n)
    → MatchOption r ((m : ℕ) → m < 2 ^ 64 → IsNumber places (pos m) word → ⊥) (λ m. IsNumber places (pos m) word)
found places word n is (Some m) e = subst (λ (k : ℤ). IsNumber places k word) (sym e) is
found places word n is None fails = λ m small h. fails m (number-one places (pos m) n word h is)

pub returns-in-Some : goal.returns-in-Some
returns-in-Some c =
    subst (λ places. IsNumber places (pos c.in-Some.n) c.args.word.now) (sym c.if-places-eq0.true) (plain-count c.args.word.now c.in-Some.n (omega arith) c.in-Some.ensures)

pub returns-in-Some-units_of : goal.returns-in-Some-units_of
returns-in-Some-units_of c =
    let f = c.in-Some-units_of in
    found c.args.places c.args.word.now (signed f.minus f.units) f.ensures c.unsigned.result c.unsigned.ensures
