-- For callers: the answer of `longest` follows from the look-ups, and an insert is one change of them.
use Rattle.std.proofs.Common.{◌≡◌, ℕ, List, Some, IsSome, true, false, cond, length, refl, sym, ap, ◌∙◌, subst, arith, inl, inr}
use Rattle.std.proofs.lemmas.Bool.{cases_Bool}
use Rattle.std.proofs.lemmas.Slice.Eq.{bytes_eq-Decides}
use Rattle.std.specs.Str.{bytes_eq}
use Rattle.prefix_match.specs.TriePatterns.{stored, IsFront, HasNoFront, IsLongest}
use Rattle.prefix_match.proofs.TrieFronts.{front_begins, begins_one}

-- two prefixes of a text of one length are one
pub front_one : (p q text : List ℕ) → IsFront p text → IsFront q text → length p ≡ length q → p ≡ q
front_one p q text f g e = begins_one p q text (front_begins p text f) (front_begins q text g) e

is_stored : (pairs : List (List ℕ × ℕ)) (p : List ℕ) (v : ℕ) → stored pairs p ≡ Some v → IsSome (stored pairs p)
is_stored pairs p v e = subst IsSome (sym e) refl

same_some : (v w : ℕ) → Some v ≡ Some w → v ≡ w
same_some v w e = cc

-- a text has one answer at most
pub longest_one : (pairs : List (List ℕ × ℕ)) (text : List ℕ) (v w : ℕ) → IsLongest pairs text v → IsLongest pairs text w → v ≡ w
longest_one pairs text v w (p, a) (q, b) =
    let below = b.longest p (is_stored pairs p v a.has_value) a.front in
    let above = a.longest q (is_stored pairs q w b.has_value) b.front in
    let same : p ≡ q = front_one p q text a.front b.front (omega arith) in
    same_some v w (sym a.has_value ∙ ap (stored pairs) same ∙ b.has_value)

pub longest_or_none : (pairs : List (List ℕ × ℕ)) (text : List ℕ) (v : ℕ) → IsLongest pairs text v → HasNoFront pairs text → ⊥
longest_or_none pairs text v (p, a) h = h p (is_stored pairs p v a.has_value) a.front

-- and it follows from the look-ups alone
pub longest_same : (old new : List (List ℕ × ℕ)) (text : List ℕ) (v : ℕ) → ((q : List ℕ) → stored new q ≡ stored old q) → IsLongest old text v → IsLongest new text v
longest_same old new text v e (p, a) = (
  p,
  record {
    has_value = e p ∙ a.has_value;
    front = a.front;
    longest = λ q s f. a.longest q (subst IsSome (e q) s) f;
  },
)

pub no_front_same : (old new : List (List ℕ × ℕ)) (text : List ℕ) → ((q : List ℕ) → stored new q ≡ stored old q) → HasNoFront old text → HasNoFront new text
no_front_same old new text e h = λ q s f. h q (subst IsSome (e q) s) f

apart : (q p : List ℕ) → q ≡ p → bytes_eq q p ≡ false → ⊥
apart q p h e = let yes : bytes_eq q p ≡ true = (bytes_eq-Decides q p).1 h in (cc)

-- what an insert of the pattern leaves, as one equation
pub stored_after : (old new : List (List ℕ × ℕ)) (pattern : List ℕ) (v : ℕ) → stored new pattern ≡ Some v → ((q : List ℕ) → (q ≡ pattern → ⊥) → stored new q ≡ stored old q) →
    (q : List ℕ) → stored new q ≡ cond (bytes_eq q pattern) (Some v) (stored old q)
stored_after old new pattern v here others q =
    elim (cases_Bool (bytes_eq q pattern)) [
      | inl e ↦ rw e (ap (stored new) ((bytes_eq-Decides q pattern).0 e) ∙ here)
      | inr e ↦ rw e (others q (λ h. apart q pattern h e))
    ]
