-- Buckets in ascending order have each bound once, from the buckets given.
use Rattle.std.proofs.Common.{◌≡◌, ◌∙◌, ◌+◌, ◌<◌, ◌⊎◌, inl, inr, ℕ, zero, suc, ℤ, Bool, true, false, cond, List, [], ◌∷◌, length, get_or, Contains, refl, ap, sym, subst, arith}
use Rattle.std.specs.Prelude.{int_lt, ◌<ℤ◌}
use Rattle.std.specs.List.{AllByRecursion, AllPairs}
use Rattle.std.proofs.lemmas.Int.{ints}
use Rattle.std.proofs.lemmas.Bool.{cond_both}
use Rattle.metrics_storage.specs.Histogram.{bucket_placed, with_buckets, ascending, HasBound, IsAscendingOf, AscendingIsInOrder}

abbrev Bucket : Type 0
Bucket = ℤ × ℕ

-- ---- elements of a list

in-first : (x : Bucket) (xs : List Bucket) → Contains (x ∷ xs) x
in-first x xs = (zero, omega arith, refl)

in-later : (x : Bucket) (xs : List Bucket) (r : Bucket) → Contains xs r → Contains (x ∷ xs) r
in-later x xs r (k, small, is) = (suc k, omega (arith, small), is)

in-split : (x : Bucket) (xs : List Bucket) (r : Bucket) → Contains (x ∷ xs) r → (x ≡ r) ⊎ Contains xs r
in-split x xs r (zero, small, is) = inl is
in-split x xs r (suc k, small, is) = inr (k, omega (arith, small), is)

in-none : (r : Bucket) → Contains [] r → ⊥
in-none r (k, small, is) = absurd (omega (arith, small))

-- ---- buckets in place

placed-only : (b : Bucket) (cs : List Bucket) (x : Bucket) → Contains (bucket_placed b cs) x → (b ≡ x) ⊎ Contains cs x
placed-only b [] x h = in-split b [] x h
placed-only b (c ∷ cs) x h = by-tests (placed-only b cs x) (int_lt b.0 c.0) (int_lt c.0 b.0) h
  where
    by-tests : (Contains (bucket_placed b cs) x → (b ≡ x) ⊎ Contains cs x) → (f g : Bool) → Contains (cond f (b ∷ c ∷ cs) (cond g (c ∷ bucket_placed b cs) (c ∷ cs))) x → (b ≡ x) ⊎ Contains (c ∷ cs) x
    by-tests rest true g h = in-split b (c ∷ cs) x h
    by-tests rest false false h = inr h
    by-tests rest false true h = elim (in-split c (bucket_placed b cs) x h) [
      | inl e ↦ inr (subst (Contains (c ∷ cs)) e (in-first c cs))
      | inr its ↦ elim (rest its) [
        | inl e ↦ inl e
        | inr its ↦ inr (in-later c cs x its)
      ]
    ]

placed-keeps : (b : Bucket) (cs : List Bucket) (x : Bucket) → Contains cs x → Contains (bucket_placed b cs) x
placed-keeps b [] x h = absurd (in-none x h)
placed-keeps b (c ∷ cs) x h = by-tests (placed-keeps b cs x) (int_lt b.0 c.0) (int_lt c.0 b.0)
  where
    by-tests : (Contains cs x → Contains (bucket_placed b cs) x) → (f g : Bool) → Contains (cond f (b ∷ c ∷ cs) (cond g (c ∷ bucket_placed b cs) (c ∷ cs))) x
    by-tests rest true g = in-later b (c ∷ cs) x h
    by-tests rest false false = h
    by-tests rest false true = elim (in-split c cs x h) [
      | inl e ↦ subst (Contains (c ∷ bucket_placed b cs)) e (in-first c (bucket_placed b cs))
      | inr its ↦ in-later c (bucket_placed b cs) x (rest its)
    ]

later-bound : (c : Bucket) (cs : List Bucket) (x : ℤ) → HasBound cs x → HasBound (c ∷ cs) x
later-bound c cs x (b, has, is) = (b, in-later c cs b has, is)

same-bound : (x y : ℤ) → int_lt x y ≡ false → int_lt y x ≡ false → y ≡ x
same-bound x y f g = omega (arith, ints, f, g)

placed-bound : (b : Bucket) (cs : List Bucket) → HasBound (bucket_placed b cs) b.0
placed-bound b [] = (b, in-first b [], refl)
placed-bound b (c ∷ cs) = by-tests (placed-bound b cs) (int_lt b.0 c.0) (int_lt c.0 b.0) refl refl
  where
    by-tests : HasBound (bucket_placed b cs) b.0 → (f g : Bool) → int_lt b.0 c.0 ≡ f → int_lt c.0 b.0 ≡ g → HasBound (cond f (b ∷ c ∷ cs) (cond g (c ∷ bucket_placed b cs) (c ∷ cs))) b.0
    by-tests rest true g e d = (b, in-first b (c ∷ cs), refl)
    by-tests rest false true e d = later-bound c (bucket_placed b cs) b.0 rest
    by-tests rest false false e d = (c, in-first c cs, same-bound b.0 c.0 e d)

with-keeps : (done bs : List Bucket) (x : Bucket) → Contains done x → Contains (with_buckets done bs) x
with-keeps done [] x h = h
with-keeps done (b ∷ bs) x h = with-keeps (bucket_placed b done) bs x (placed-keeps b done x h)

with-only : (done bs : List Bucket) (x : Bucket) → Contains (with_buckets done bs) x → Contains done x ⊎ Contains bs x
with-only done [] x h = inl h
with-only done (b ∷ bs) x h = elim (with-only (bucket_placed b done) bs x h) [
  | inr its ↦ inr (in-later b bs x its)
  | inl its ↦ elim (placed-only b done x its) [
    | inl e ↦ inr (subst (Contains (b ∷ bs)) e (in-first b bs))
    | inr its ↦ inl its
  ]
]

with-bound : (done bs : List Bucket) (b : Bucket) → Contains bs b → HasBound (with_buckets done bs) b.0
with-bound done [] b h = absurd (in-none b h)
with-bound done (c ∷ bs) b h = elim (in-split c bs b h) [
  | inl e ↦
      let (d, has, is) = placed-bound c done in
      (d, with-keeps (bucket_placed c done) bs d has, is ∙ ap (λ (x : Bucket). x.0) e)
  | inr its ↦ with-bound (bucket_placed c done) bs b its
]

-- ---- in order

abbrev IsBelow : Bucket → Bucket → Type 0
IsBelow a b = int_lt a.0 b.0 ≡ true

-- each is below each later one
abbrev AreBelow : List Bucket → Type 0
AreBelow [] = Unit {0}
AreBelow (x ∷ xs) = AllByRecursion (IsBelow x) xs × AreBelow xs

below-trans : (a b c : ℤ) → int_lt a b ≡ true → int_lt b c ≡ true → int_lt a c ≡ true
below-trans a b c h g = grind (arith, ints)

each-below : (b c : Bucket) (xs : List Bucket) → IsBelow b c → AllByRecursion (IsBelow c) xs → AllByRecursion (IsBelow b) xs
each-below b c [] e h = tt
each-below b c (x ∷ xs) e h = (below-trans b.0 c.0 x.0 e h.0, each-below b c xs e h.1)

placed-each : (P : Bucket → Type 0) (b : Bucket) (cs : List Bucket) → P b → AllByRecursion P cs → AllByRecursion P (bucket_placed b cs)
placed-each P b [] h hs = (h, tt)
placed-each P b (c ∷ cs) h hs =
    cond_both (int_lt b.0 c.0) (b ∷ c ∷ cs) _ (AllByRecursion P) (λ _. (h, hs))
    (λ _. cond_both (int_lt c.0 b.0) (c ∷ bucket_placed b cs) (c ∷ cs) (AllByRecursion P) (λ _. (hs.0, placed-each P b cs h hs.1)) (λ _. hs))

placed-up : (b : Bucket) (cs : List Bucket) → AreBelow cs → AreBelow (bucket_placed b cs)
placed-up b [] up = (tt, tt)
placed-up b (c ∷ cs) up =
    cond_both (int_lt b.0 c.0) (b ∷ c ∷ cs) _ AreBelow
    (λ e. ((e, each-below b c cs e up.0), up))
    (λ _. cond_both (int_lt c.0 b.0) (c ∷ bucket_placed b cs) (c ∷ cs) AreBelow (λ e. (placed-each (IsBelow c) b cs e up.0, placed-up b cs up.1)) (λ _. up))

with-up : (done bs : List Bucket) → AreBelow done → AreBelow (with_buckets done bs)
with-up done [] up = up
with-up done (b ∷ bs) up = with-up (bucket_placed b done) bs (placed-up b done up)

each-at : (x : Bucket) (xs : List Bucket) (j : ℕ) (d : Bucket) → AllByRecursion (IsBelow x) xs → j < length xs → x.0 <ℤ (get_or xs j d).0
each-at x [] j d h small = absurd (omega (arith, small))
each-at (x, n) ((y, m) ∷ xs) zero d h small = let e = h.0 in grind (arith, ints)
each-at x (y ∷ xs) (suc j) d h small = each-at x xs j d h.1 (omega (arith, small))

pairs-below : (xs : List Bucket) → AreBelow xs → AllPairs (λ a b. a.0 <ℤ b.0) xs
pairs-below [] up i j d before small = absurd (omega (arith, small))
pairs-below (x ∷ xs) up zero zero d before small = absurd (omega (arith, before))
pairs-below (x ∷ xs) up zero (suc j) d before small = each-at x xs j d up.0 (omega (arith, small))
pairs-below (x ∷ xs) up (suc i) zero d before small = absurd (omega (arith, before))
pairs-below (x ∷ xs) up (suc i) (suc j) d before small = pairs-below xs up.1 i j d (omega (arith, before)) (omega (arith, small))

from-given : (buckets : List Bucket) (b : Bucket) → Contains (ascending buckets) b → Contains buckets b
from-given buckets b h = elim (with-only [] buckets b h) [
  | inl its ↦ absurd (in-none b its)
  | inr its ↦ its
]

pub ascending-in-order : AscendingIsInOrder
ascending-in-order buckets = record {
  ascend = pairs-below (ascending buckets) (with-up [] buckets tt);
  bounds = λ bound. (
    (λ h. subst (HasBound (ascending buckets)) h.2 (with-bound [] buckets h.0 h.1)),
    (λ h. (h.0, from-given buckets h.0 h.1, h.2)),
  );
  among = from-given buckets;
}
