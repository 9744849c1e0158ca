-- Whether a number has a decimal place too many.
use Rattle.std.proofs.Common.{◌≡◌, ◌∙◌, ℕ, ◌≤◌, ◌&&◌, nat_lt, Bool, true, false, length, refl, ap, sym, subst, arith}
use Rattle.std.proofs.lemmas.Bool.{false≢true}
use Rattle.std.proofs.lemmas.Bool.Decides.{nat_tests}
use Rattle.tool_numbers.specs.Numerals.{Power, Numeral, none, raised, raised_plus, lowered, HasRoom}
use Rattle.tool_numbers.specs.Parts.{is_none}

lt-true : (m n : ℕ) → nat_lt m n ≡ true → n ≤ m → ⊥
lt-true m n h le = grind (arith, nat_tests)

both-true : (a b : Bool) → (a && b) ≡ true → (a ≡ true) × (b ≡ true)
both-true true true h = (refl, refl)
both-true true false h = absurd (false≢true h)
both-true false b h = absurd (false≢true h)

-- a place too many
pub too-many : (places : ℕ) (n : Numeral) (test plain : Bool) (few : ℕ) → test ≡ (plain && nat_lt places few) → test ≡ true
    → plain ≡ is_none n.power → few ≡ length n.fraction → HasRoom places n → ⊥
too-many places n test plain few is holds plain_is few_is room =
    let parts = both-true plain (nat_lt places few) (sym is ∙ holds) in
    no-room n.power refl (sym plain_is ∙ parts.0)
  where
    no-room : (p : Power) → n.power ≡ p → is_none n.power ≡ true → ⊥
    no-room none e h = lt-true places few (both-true plain (nat_lt places few) (sym is ∙ holds)).1 (subst (λ z. z ≤ places) (sym few_is) (room e))
    no-room (raised ds) e h = absurd (false≢true (sym (ap is_none e) ∙ h))
    no-room (raised_plus ds) e h = absurd (false≢true (sym (ap is_none e) ∙ h))
    no-room (lowered ds) e h = absurd (false≢true (sym (ap is_none e) ∙ h))
