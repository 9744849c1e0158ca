-- A histogram's buckets as they are written.
use Rattle.std.proofs.Common.{◌≡◌, ◌∙◌, ◌≤◌, ◌+◌, ◌⊎◌, inl, inr, ℕ, ℤ, Bool, true, false, cond, List, [], ◌∷◌, map, Contains, refl, ap, sym, subst, arith}
use Rattle.std.specs.Prelude.{int_lt, int_le, ◌<ℤ◌}
use Rattle.std.specs.List.{AllByRecursion}
use Rattle.std.proofs.lemmas.Int.{ints}
use Rattle.std.proofs.lemmas.List.Sums.{count_by-le-length, sum_by-cons}
use Rattle.metrics_names.specs.Names.{LabelParts}
use Rattle.metrics_storage.specs.Histogram.{at_most, bucket_with, no_samples, with_samples, bucket_placed, with_buckets, ascending}
use Rattle.metrics_exposition.specs.Samples.{histogram_samples}
use Rattle.metrics_exposition.specs.Reading.{AreBuckets}
use Rattle.metrics_exposition.proofs.PairLemmas.{each-map, in-first, in-later, in-split, in-none, pairs-with, pairs-places}
use Rattle.metrics_exposition.proofs.BoundLemmas.{IsBelow, with-each, with-up}

-- ---- each bucket is there

-- what is there is the new one, or was there
placed-only : (b : ℤ × ℕ) (cs : List (ℤ × ℕ)) (x : ℤ × ℕ) → Contains (bucket_placed b cs) x → (b ≡ x) ⊎ Contains cs x
placed-only b [] x h = in-split b [] x h
placed-only b (c ∷ cs) x h = by-tests (placed-only b cs x) (int_lt b.0 c.0) (int_lt c.0 b.0) h
  where
    by-tests : (Contains (bucket_placed b cs) x → (b ≡ x) ⊎ Contains cs x) → (f g : Bool) → Contains (cond f (b ∷ c ∷ cs) (cond g (c ∷ bucket_placed b cs) (c ∷ cs))) x → (b ≡ x) ⊎ Contains (c ∷ cs) x
    by-tests rest true g h = in-split b (c ∷ cs) x h
    by-tests rest false false h = inr h
    by-tests rest false true h = elim (in-split c (bucket_placed b cs) x h) [
      | inl e ↦ inr (subst (Contains (c ∷ cs)) e (in-first c cs))
      | inr its ↦ elim (rest its) [
        | inl e ↦ inl e
        | inr its ↦ inr (in-later c cs x its)
      ]
    ]

placed-keeps : (b : ℤ × ℕ) (cs : List (ℤ × ℕ)) (x : ℤ × ℕ) → Contains cs x → Contains (bucket_placed b cs) x
placed-keeps b [] x h = absurd (in-none x h)
placed-keeps b (c ∷ cs) x h = by-tests (placed-keeps b cs x) (int_lt b.0 c.0) (int_lt c.0 b.0)
  where
    by-tests : (Contains cs x → Contains (bucket_placed b cs) x) → (f g : Bool) → Contains (cond f (b ∷ c ∷ cs) (cond g (c ∷ bucket_placed b cs) (c ∷ cs))) x
    by-tests rest true g = in-later b (c ∷ cs) x h
    by-tests rest false false = h
    by-tests rest false true = elim (in-split c cs x h) [
      | inl e ↦ subst (Contains (c ∷ bucket_placed b cs)) e (in-first c (bucket_placed b cs))
      | inr its ↦ in-later c (bucket_placed b cs) x (rest its)
    ]

-- the samples at most the bound
module _ (samples : List ℤ) where
  abbrev pub IsCounted : ℤ × ℕ → Type 0
  IsCounted b = b.1 ≡ at_most b.0 samples

  same-bucket : (b c : ℤ × ℕ) → IsCounted b → IsCounted c → int_lt b.0 c.0 ≡ false → int_lt c.0 b.0 ≡ false → c ≡ b
  same-bucket (x, n) (y, m) hb hc f g =
      let same : y ≡ x = omega (arith, ints, f, g) in
      let number : m ≡ n = hc ∙ ap (λ z. at_most z samples) same ∙ sym hb in
      λ i. (same i, number i)

  placed-has : (b : ℤ × ℕ) (cs : List (ℤ × ℕ)) → IsCounted b → AllByRecursion IsCounted cs → Contains (bucket_placed b cs) b
  placed-has b [] h hs = in-first b []
  placed-has b (c ∷ cs) h hs = by-tests (placed-has b cs h hs.1) (int_lt b.0 c.0) (int_lt c.0 b.0) refl refl
    where
      by-tests : Contains (bucket_placed b cs) b → (f g : Bool) → int_lt b.0 c.0 ≡ f → int_lt c.0 b.0 ≡ g → Contains (cond f (b ∷ c ∷ cs) (cond g (c ∷ bucket_placed b cs) (c ∷ cs))) b
      by-tests rest true g e d = in-first b (c ∷ cs)
      by-tests rest false true e d = in-later c (bucket_placed b cs) b rest
      by-tests rest false false e d = subst (Contains (c ∷ cs)) (same-bucket b c h hs.0 e d) (in-first c cs)

  placed-counted : (b : ℤ × ℕ) (cs : List (ℤ × ℕ)) → IsCounted b → AllByRecursion IsCounted cs → AllByRecursion IsCounted (bucket_placed b cs)
  placed-counted b cs h hs = with-each IsCounted cs (b ∷ []) hs (h, tt)

  with-keeps : (done bs : List (ℤ × ℕ)) (x : ℤ × ℕ) → Contains done x → Contains (with_buckets done bs) x
  with-keeps done [] x h = h
  with-keeps done (b ∷ bs) x h = with-keeps (bucket_placed b done) bs x (placed-keeps b done x h)

  with-has : (done bs : List (ℤ × ℕ)) (x : ℤ × ℕ) → AllByRecursion IsCounted done → AllByRecursion IsCounted bs → Contains bs x → Contains (with_buckets done bs) x
  with-has done [] x hd hs h = absurd (in-none x h)
  with-has done (b ∷ bs) x hd hs h = elim (in-split b bs x h) [
    | inl e ↦ with-keeps (bucket_placed b done) bs x (subst (Contains (bucket_placed b done)) e (placed-has b done hs.0 hd))
    | inr its ↦ with-has (bucket_placed b done) bs x (placed-counted b done hs.0 hd) hs.1 its
  ]

  with-only : (done bs : List (ℤ × ℕ)) (x : ℤ × ℕ) → Contains (with_buckets done bs) x → Contains done x ⊎ Contains bs x
  with-only done [] x h = inl h
  with-only done (b ∷ bs) x h = elim (with-only (bucket_placed b done) bs x h) [
    | inr its ↦ inr (in-later b bs x its)
    | inl its ↦ elim (placed-only b done x its) [
      | inl e ↦ inr (subst (Contains (b ∷ bs)) e (in-first b bs))
      | inr its ↦ inl its
    ]
  ]

  -- ---- the numbers don't fall

  more-at : (x y : ℤ) → int_lt x y ≡ true → (zs : List ℤ) → at_most x zs ≤ at_most y zs
  more-at x y e [] = omega arith
  more-at x y e (z ∷ zs) =
      let f : ℤ → ℕ = λ w. cond (int_le w x) 1 0 in
      let g : ℤ → ℕ = λ w. cond (int_le w y) 1 0 in
      let le = both (int_le z x) (int_le z y) (λ h. grind (arith, ints)) (more-at x y e zs) in
      let a : at_most x (z ∷ zs) ≡ cond (int_le z x) 1 0 + at_most x zs = sum_by-cons f z zs in
      let b : at_most y (z ∷ zs) ≡ cond (int_le z y) 1 0 + at_most y zs = sum_by-cons g z zs in
      omega (arith, a, b, le)
    where
      both : (f g : Bool) → (f ≡ true → g ≡ true) → {m n : ℕ} → m ≤ n → cond f 1 0 + m ≤ cond g 1 0 + n
      both true true h {m} {n} le = omega (arith, le)
      both true false h {m} {n} le = absurd (let g : false ≡ true = h refl in cc)
      both false true h {m} {n} le = omega (arith, le)
      both false false h {m} {n} le = omega (arith, le)

  abbrev IsNext : ℤ × ℕ → ℤ × ℕ → Type 0
  IsNext a b = (a.0 <ℤ b.0) × (a.1 ≤ b.1)

  next-from : (a b : ℤ × ℕ) → IsCounted a → IsCounted b → IsBelow a b → IsNext a b
  next-from (x, n) (y, m) ha hb e = (grind (arith, ints), (let le = more-at x y e samples in omega (arith, le, ha, hb)))

  counted-buckets : (bounds : List ℤ) → AllByRecursion IsCounted (map (bucket_with samples) (map (λ b. (b, 0)) bounds))
  counted-buckets [] = tt
  counted-buckets (b ∷ bs) = (omega arith, counted-buckets bs)

  pub buckets-are : (bounds : List ℤ) (places : ℕ) (name : List ℕ) (labels : List LabelParts) → AreBuckets places name labels (with_samples samples (no_samples bounds)) (histogram_samples places name labels (with_samples samples (no_samples bounds)))
  buckets-are bounds places name labels =
      let d = with_samples samples (no_samples bounds) in
      let counted = counted-buckets bounds in
      let done = ascending d.buckets in
      let all-counted = with-each IsCounted [] d.buckets tt counted in
      record {
        buckets = done;
        all = λ b. (
          (λ h. elim (with-only [] d.buckets b h) [
            | inl its ↦ absurd (in-none b its)
            | inr its ↦ its
          ]),
          with-has [] d.buckets b tt counted,
        );
        ascend = pairs-places IsNext done (pairs-with IsCounted IsBelow IsNext next-from done all-counted (with-up [] d.buckets tt));
        within = each-map IsCounted (λ b. b.1 ≤ d.count) (λ b h. let le = count_by-le-length (λ x. int_le x b.0) samples in omega (arith, h, le)) done all-counted;
        are = refl;
      }
