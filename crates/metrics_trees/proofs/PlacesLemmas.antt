-- Places of books.
use Rattle.std.proofs.Common.{◌≡◌, ℕ, ◌+◌, ◌-◌, ◌<◌, ◌≤◌, ◌⊎◌, true, false, List, [], ◌∷◌, length, get_or, ap, ◌∙◌, arith, inl, inr}
use Rattle.std.specs.Prelude.{nat_le}
use Rattle.std.proofs.lemmas.Bool.{cases_lt, leb-true, leb-false}
use Rattle.std.proofs.lemmas.List.{take_all}
use Rattle.std.specs.List.Sorted.{IsPartitionPoint}
use Rattle.std.proofs.lemmas.List.Sorted.{IsNonDecreasingBy-from_default}
use Rattle.metrics.specs.Meaning.{Meaning}
use Rattle.metrics_rules.specs.Nodes.{AreStarts}
use Rattle.metrics_rules.proofs.JoinedLemmas.{starts-count, begins, leaves-rise}
use Rattle.metrics_trees.specs.Places.{Ascends, IsLast, IsPlace}
use Rattle.metrics_trees.specs.Recorders.{books_in, start}

-- ---- the last start that is at most a number

module _ (starts : List ℕ) (book : ℕ) (h : Ascends starts) (i : ℕ) (p : IsPartitionPoint (λ y. nat_le y book ≡ true) (λ y. nat_le y book ≡ false) starts i) where
  pub some-before : 0 < i
  some-before = side (cases_lt 0 i)
    where
      side : (0 < i) ⊎ (i ≤ 0) → 0 < i
      side (inl l) = l
      side (inr l) = absurd (omega (arith, leb-false _ book (p.1 0 0 l h.some), h.first))

  pub last-before : i ≤ length starts → IsLast starts book (i - 1)
  last-before le =
      let s = some-before in
      record {
        within = omega (arith, s, le);
        most = leb-true _ book (p.0 (i - 1) 0 (omega (arith, s)) (omega (arith, s, le)));
        next = λ lt. leb-false _ book (p.1 (i - 1 + 1) 0 (omega (arith, s)) lt);
      }

-- ---- where recorders begin

module _ (starts : List ℕ) (all : List Meaning) (are : AreStarts starts all) (book : ℕ) (lt : book < books_in all) where
  count : length starts ≡ length all
  count = starts-count starts all are

  some_of : (all : List Meaning) → book < books_in all → 0 < length all
  some_of [] l = absurd (omega (arith, l))
  some_of (a ∷ all) l = omega arith

  pub ascends : Ascends starts
  ascends =
      let some = some_of all lt in
      let first = λ (i : ℕ) (l : i < length all). begins starts all are i l 0 in
      record {
        some = omega (arith, some, count);
        first = first 0 some;
        rise = IsNonDecreasingBy-from_default (λ n. n) starts 0 (λ i j le l. (let r = leaves-rise all i j le in omega (arith, r, first i (omega (arith, le, l, count)), first j (omega (arith, l, count)))));
      }

  pub place_is : (n : ℕ) → IsLast starts book n → (from : ℕ) → from ≡ get_or starts n from → IsPlace all book (n, book - from)
  place_is n h from at =
      let inside : n < length all = omega (arith, h.within, count) in
      record { recorder = inside; number = omega (arith, at ∙ begins starts all are n inside from, begins starts all are n inside 0, h.most); below = next (cases_lt (n + 1) (length all)) }
    where
      next : (n + 1 < length all) ⊎ (length all ≤ n + 1) → book < start (n + 1) all
      next (inl l) = let b = h.next (omega (arith, l, count)) in omega (arith, b, begins starts all are (n + 1) l 0)
      next (inr l) = let w = ap books_in (take_all (n + 1) all l) in omega (arith, w, lt)
