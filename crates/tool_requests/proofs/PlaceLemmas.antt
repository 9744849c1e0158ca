-- The place of a label among others in order.
use Rattle.std.proofs.Common.{◌≡◌, ◌∙◌, ◌+◌, inl, inr, ℕ, zero, suc, ◌<◌, ◌≤◌, true, false, cond, List, [], ◌∷◌, Result, Ok, Err, length, get_or, refl, ap, sym, subst, arith}
use Rattle.std.specs.Prelude.{insert, MatchResult}
use Rattle.std.specs.List.{HoldsAt}
use Rattle.std.specs.Cmp.Lexicographic.{slice_cmp}
use Rattle.std.specs.List.Sorted.{IsSorted, IsBinarySearchResult, IsSearchInRange, IsPartitionPoint}
use Rattle.std.specs.Ordering.{is_lt, nat_cmp, ordering_reverse, ordering_then}
use Rattle.std.specs.declared.cmp.Ordering.{Ordering}
use Rattle.std.specs.declared.cmp.Ordering.TheVariants.{Less, Equal, Greater}
use Rattle.std.proofs.lemmas.Bool.{cases_lt, cond_both}
use Rattle.std.proofs.lemmas.Cmp.{nat_list_cmp_total, tied_itself}
use Rattle.std.proofs.lemmas.List.Sorted.{searchable_from_sorted}
use Rattle.std.proofs.lemmas.Map.Lookups.{exact_bytes}
use Rattle.metrics_names.specs.Names.{LabelParts, label_cmp}
use Rattle.metrics_exposition.specs.Labels.{placed}
use Rattle.metrics_exposition.proofs.OrderLemmas.{first-part, label_total}
use Rattle.tool_requests.specs.Lines.{LacksKey, with_label, has_key}

abbrev pub keys : List ℕ → List ℕ → Ordering
keys = slice_cmp nat_cmp

-- it follows those that it doesn't precede, and precedes the next
pub place-at : (l : LabelParts) (ms : List LabelParts) (i : ℕ) → i ≤ length ms
    → ((k : ℕ) (d : LabelParts) → k < i → is_lt (label_cmp l (get_or ms k d)) ≡ false)
    → (i < length ms → (d : LabelParts) → is_lt (label_cmp l (get_or ms i d)) ≡ true) → insert ms i l ≡ placed l ms
place-at l [] zero le before after = refl
place-at l [] (suc i) le before after = absurd (omega (arith, le))
place-at l (m ∷ ms) zero le before after = sym (ap (λ b. cond b (l ∷ m ∷ ms) (m ∷ placed l ms)) (after (omega arith) m))
place-at l (m ∷ ms) (suc i) le before after =
    ap (λ ls. m ∷ ls) (place-at l ms i (omega (arith, le)) (λ k d low. before (suc k) d (omega (arith, low))) (λ low d. after (omega (arith, low)) d))
    ∙ sym (ap (λ b. cond b (l ∷ m ∷ ms) (m ∷ placed l ms)) (before 0 m (omega arith)))

-- ---- labels in order

-- a label doesn't come before another
abbrev IsUp : LabelParts → LabelParts → Type 0
IsUp l m = is_lt (label_cmp m l) ≡ false

up-from : (l m : LabelParts) → is_lt (label_cmp l m) ≡ true → IsUp l m
up-from l m e = go (label_cmp l m) (label_cmp m l) (label_total.antisymm m l) e
  where
    go : (o p : Ordering) → p ≡ ordering_reverse o → is_lt o ≡ true → is_lt p ≡ false
    go Less p is e = ap is_lt is
    go Equal p is e = absurd (let g : false ≡ true = e in cc)
    go Greater p is e = absurd (let g : false ≡ true = e in cc)

-- none of them comes before the one before it, nor the first one before this
abbrev RiseFrom : LabelParts → List LabelParts → Type 0
RiseFrom l [] = Unit {0}
RiseFrom l (m ∷ ms) = IsUp l m × RiseFrom m ms

rise-placed : (n l : LabelParts) (ms : List LabelParts) → IsUp n l → RiseFrom n ms → RiseFrom n (placed l ms)
rise-placed n l [] up rise = (up, tt)
rise-placed n l (m ∷ ms) up rise =
    cond_both (is_lt (label_cmp l m)) (l ∷ m ∷ ms) (m ∷ placed l ms) (RiseFrom n)
    (λ e. (up, (up-from l m e, rise.1))) (λ e. (rise.0, rise-placed m l ms e rise.1))

from-sorted : (n : LabelParts) (ms : List LabelParts) → IsSorted label_cmp (n ∷ ms) → RiseFrom n ms
from-sorted n [] up = tt
from-sorted n (m ∷ ms) up = (
  up 0 n (omega arith) (omega arith),
  from-sorted m ms (λ k d low small.
      let later : suc k + 1 ≡ suc (k + 1) = omega arith in
      subst (λ j. IsUp (get_or (m ∷ ms) k d) (get_or (n ∷ m ∷ ms) j d)) later (up (suc k) d (omega arith) (omega (arith, small)))),
)

to-sorted : (n : LabelParts) (ms : List LabelParts) → RiseFrom n ms → IsSorted label_cmp (n ∷ ms)
to-sorted n [] rise k d low small = absurd (omega (arith, small))
to-sorted n (m ∷ ms) rise zero d low small = rise.0
to-sorted n (m ∷ ms) rise (suc k) d low small =
    let later : suc (k + 1) ≡ suc k + 1 = omega arith in
    subst (λ j. IsUp (get_or (m ∷ ms) k d) (get_or (n ∷ m ∷ ms) j d)) later (to-sorted m ms rise.1 k d (omega arith) (omega (arith, small)))

pub placed-sorted : (l : LabelParts) (ms : List LabelParts) → IsSorted label_cmp ms → IsSorted label_cmp (placed l ms)
placed-sorted l [] up = to-sorted l [] tt
placed-sorted l (m ∷ ms) up =
    cond_both (is_lt (label_cmp l m)) (l ∷ m ∷ ms) (m ∷ placed l ms) (IsSorted label_cmp)
    (λ e. to-sorted l (m ∷ ms) (up-from l m e, from-sorted m ms up)) (λ e. to-sorted m (placed l ms) (rise-placed m l ms e (from-sorted m ms up)))

pub with-sorted : (l : LabelParts) (ms : List LabelParts) → IsSorted label_cmp ms → IsSorted label_cmp (with_label l ms)
with-sorted l ms up = cond_both (has_key l.0 ms) ms (placed l ms) (IsSorted label_cmp) (λ e. up) (λ e. placed-sorted l ms up)

-- ---- a search for a key

other-key : (key : List ℕ) (l : LabelParts) → (keys l.0 key ≡ Equal → ⊥) → l.0 ≡ key → ⊥
other-key key l h e = h (ap (λ k. keys k key) e ∙ tied_itself nat_list_cmp_total key)

module _ (key value : List ℕ) where
  turned : (m : LabelParts) (o : Ordering) → keys m.0 key ≡ o → keys key m.0 ≡ ordering_reverse o
  turned m o e = nat_list_cmp_total.antisymm key m.0 ∙ ap ordering_reverse e

  behind : (m : LabelParts) → keys m.0 key ≡ Less → is_lt (label_cmp (key, value) m) ≡ false
  behind m e = ap (λ o. is_lt (ordering_then o (keys value m.1))) (turned m Less e)

  ahead : (m : LabelParts) → keys m.0 key ≡ Greater → is_lt (label_cmp (key, value) m) ≡ true
  ahead m e = ap (λ o. is_lt (ordering_then o (keys value m.1))) (turned m Greater e)

module _ (key : List ℕ) (ms : List LabelParts) (up : IsSorted label_cmp ms) where
  by-key : (k : ℕ) (d : LabelParts) → 0 ≤ k → k + 1 < length ms → is_lt (keys (get_or ms (k + 1) d).0 (get_or ms k d).0) ≡ false
  by-key k d low small = first-part (keys (get_or ms (k + 1) d).0 (get_or ms k d).0) (keys (get_or ms (k + 1) d).1 (get_or ms k d).1) (up k d low small)

  found-at : (i : ℕ) → i < length ms → HoldsAt (λ m. keys m.0 key ≡ Equal) ms i → LacksKey key ms → ⊥
  found-at i small equal lacks = lacks i ([], []) small (exact_bytes (get_or ms i ([], [])).0 key (equal ([], [])))

  goes-at : (i : ℕ) → i ≤ length ms → IsPartitionPoint (λ m. keys m.0 key ≡ Less) (λ m. keys m.0 key ≡ Greater) ms i
      → LacksKey key ms × (i ≤ length ms) × ((value : List ℕ) → insert ms i (key, value) ≡ placed (key, value) ms)
  goes-at i le parts = (
    λ k d small. other-key key (get_or ms k d) (λ e. elim (cases_lt k i) [
      | inl below ↦ absurd (let g : Less ≡ Equal = sym (parts.0 k d (omega arith) below) ∙ e in cc)
      | inr above ↦ absurd (let g : Greater ≡ Equal = sym (parts.1 k d above small) ∙ e in cc)
    ]),
    le,
    λ value. place-at (key, value) ms i le
        (λ k d low. behind key value (get_or ms k d) (parts.0 k d (omega arith) low))
        (λ low d. ahead key value (get_or ms i d) (parts.1 i d (omega arith) low)),
  )

  -- where a search for a key came to: a label has it there, or none does, and one with it goes there
  pub searched : (r : Result ℕ ℕ) → IsSearchInRange r (length ms) → IsBinarySearchResult (λ m. keys m.0 key) ms r
      → MatchResult r (λ _. LacksKey key ms → ⊥)
      (λ i. LacksKey key ms × (i ≤ length ms) × ((value : List ℕ) → insert ms i (key, value) ≡ placed (key, value) ms))
  searched (Ok i) small equal = found-at i small equal
  searched (Err i) le point = goes-at i le (point (searchable_from_sorted nat_list_cmp_total (λ (m : LabelParts). m.0) ms key by-key))
