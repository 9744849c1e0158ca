-- What a walk's answer says of the patterns.
use Rattle.std.proofs.Common.{◌≡◌, ℕ, ◌*◌, ◌≤◌, Bool, IsTrue, ◌↔◌, List, [], ◌∷◌, map, Vec, Global, length, take, refl, sym, ◌∙◌, ap, arith}
use Rattle.std.proofs.lemmas.List.{length-map}
use Rattle.prefix_match.specs.Substring.{Patterns, compared, lowered, lowered_byte, Occurs, OccursWithin, some_ends, longest_front, walk_end}
use Rattle.prefix_match.specs.SubstringStates.{IsLinkWalk}
use Rattle.prefix_match.specs.SubstringTable.{IsTableWalk}
use Rattle.prefix_match.proofs.SubstringWalks.{ends_from_occurs, occurs_within, walk_end-le, moves_is, length-le-moves_to}

abbrev pub ends_at : Patterns → List ℕ → Bool
ends_at s text = some_ends (compared s) (take (walk_end (compared s) (lowered s.fold_case text)) (lowered s.fold_case text))

pub within_from : (s : Patterns) (text : List ℕ) (yes-is : Bool) (n : ℕ) → ends_at s text ≡ yes-is → length (longest_front (compared s) (take (walk_end (compared s) (lowered s.fold_case text)) (lowered s.fold_case text))) ≤ n → IsTrue yes-is → OccursWithin s text n
within_from s text b n e short h = occurs_within s text (walk_end (compared s) (lowered s.fold_case text)) n (e ∙ h) short

pub found_from : (s : Patterns) (text : List ℕ) (b : Bool) (n : ℕ) → ends_at s text ≡ b → length (longest_front (compared s) (take (walk_end (compared s) (lowered s.fold_case text)) (lowered s.fold_case text))) ≤ n → IsTrue b ↔ Occurs s text
found_from s text b n e short =
    (λ h. (let o = within_from s text b n e short h in (o.0, o.1, o.2, (o.3.0, o.3.1))), λ o. sym e ∙ ends_from_occurs s text o)

pub table_least : (s : Patterns) (text : List ℕ) (b : Bool) (n : ℕ) → IsTableWalk (compared s) (lowered s.fold_case text) b n → length (longest_front (compared s) (take (walk_end (compared s) (lowered s.fold_case text)) (lowered s.fold_case text))) ≤ n
table_least s text b n w =
    let ps = compared s in
    let t : List ℕ = lowered s.fold_case text in
    omega (arith, w.count, sym (moves_is ps t (walk_end ps t) refl), length-le-moves_to ps t (walk_end ps t) (walk_end-le ps t))

pub link_most : (s : Patterns) (text : List ℕ) (b : Bool) (n : ℕ) → IsLinkWalk (compared s) (lowered s.fold_case text) b n → n ≤ 2 * length text
link_most s text b n w = omega (arith, w.most, length-map text (lowered_byte s.fold_case))

-- the patterns of a set, as its states have them
pub compared_is : (fold : Bool) (vs : List (Vec ℕ Global)) → map (λ p. lowered fold p.items) vs ≡ map (lowered fold) (map (λ p. p.items) vs)
compared_is fold [] = refl
compared_is fold (v ∷ vs) = ap (λ xs. lowered fold v.items ∷ xs) (compared_is fold vs)
