-- Two histograms of the same bounds.
use Rattle.std.proofs.Common.{◌≡◌, ℕ, zero, suc, ◌+◌, ◌<◌, List, [], ◌∷◌, ◌++◌, map, length, set, get_or, refl, ap, ◌∙◌, arith, length-append}
use Rattle.std.specs.Prelude.{ℤ, pos, ◌+ℤ◌, cond, int_le}
use Rattle.std.specs.List.{zip, fold}
use Rattle.std.proofs.lemmas.Int.{ints}
use Rattle.std.proofs.lemmas.List.Sums.{sum_by-append, fold-append}
use Rattle.metrics_storage.specs.Histogram.{at_most, sum_of, bucket_with, rank, sum_up_to, total, buckets_of, both_ranked, MergingAddsSamples}
use Rattle.metrics_storage.proofs.Counting.{same_distribution}

-- ---- the samples of both

sum-from : (ys : List ℤ) (a : ℤ) → fold ◌+ℤ◌ a ys ≡ a +ℤ sum_of ys
sum-from [] a = omega (arith, ints)
sum-from (y ∷ ys) a = let on = sum-from ys (a +ℤ y) in let own = sum-from ys (pos 0 +ℤ y) in omega (arith, ints, on, own)

sum-both : (xs ys : List ℤ) → sum_of (xs ++ ys) ≡ sum_of xs +ℤ sum_of ys
sum-both xs ys = fold-append ◌+ℤ◌ (pos 0) xs ys ∙ sum-from ys (sum_of xs)

abbrev pub both_buckets : List (ℤ × ℕ) → List (ℤ × ℕ) → List (ℤ × ℕ)
both_buckets bs cs = map (λ p. (p.0.0, p.0.1 + p.1.1)) (zip bs cs)

buckets-merge : (xs ys : List ℤ) (bs : List (ℤ × ℕ))
    → both_buckets (map (bucket_with xs) bs) (map (bucket_with ys) (map (λ bound. (bound, 0)) (map (λ (b : ℤ × ℕ). b.0) bs))) ≡ map (bucket_with (xs ++ ys)) bs
buckets-merge xs ys [] = refl
buckets-merge xs ys (b ∷ bs) =
    let all = sum_by-append (λ x. cond (int_le x b.0) 1 0) xs ys in
    let e : b.1 + at_most b.0 xs + (0 + at_most b.0 ys) ≡ b.1 + at_most b.0 (xs ++ ys) = omega (arith, all) in
    λ j. (b.0, e j) ∷ buckets-merge xs ys bs j

pub merging-adds : MergingAddsSamples
merging-adds xs ys h = same_distribution (buckets-merge xs ys h.buckets) (omega (arith, length-append xs ys)) (omega (arith, ints, sum-both xs ys))

-- ---- their numbers

pub length-both : (ks ls : List ℕ) → length ks ≡ length ls → length (both_ranked ks ls) ≡ length ks
length-both [] ls e = refl
length-both (k ∷ ks) [] e = absurd (omega (arith, e))
length-both (k ∷ ks) (l ∷ ls) e = let on = length-both ks ls (omega (arith, e)) in omega (arith, on)

sum-up-both : (n : ℕ) (ks ls : List ℕ) → length ks ≡ length ls → sum_up_to n (both_ranked ks ls) ≡ sum_up_to n ks + sum_up_to n ls
sum-up-both zero ks ls e = refl
sum-up-both (suc n) [] [] e = refl
sum-up-both (suc n) [] (l ∷ ls) e = absurd (omega (arith, e))
sum-up-both (suc n) (k ∷ ks) [] e = absurd (omega (arith, e))
sum-up-both (suc n) (k ∷ ks) (l ∷ ls) e = let on = sum-up-both n ks ls (omega (arith, e)) in omega (arith, on)

pub total-both : (ks ls : List ℕ) → length ks ≡ length ls → total (both_ranked ks ls) ≡ total ks + total ls
total-both ks ls e =
    ap (λ n. sum_up_to n (both_ranked ks ls)) (length-both ks ls e) ∙ sum-up-both (length ks) ks ls e ∙ ap (λ n. total ks + sum_up_to n ls) e

pub buckets-both : (bounds : List ℤ) (ks ls : List ℕ) → length ks ≡ length ls → buckets_of bounds (both_ranked ks ls) ≡ both_buckets (buckets_of bounds ks) (buckets_of bounds ls)
buckets-both bounds ks ls e = go bounds
  where
    go : (bs : List ℤ) → map (λ bound. (bound, sum_up_to (rank bounds bound + 1) (both_ranked ks ls))) bs
        ≡ both_buckets (map (λ bound. (bound, sum_up_to (rank bounds bound + 1) ks)) bs) (map (λ bound. (bound, sum_up_to (rank bounds bound + 1) ls)) bs)
    go [] = refl
    go (b ∷ bs) = λ j. (b, sum-up-both (rank bounds b + 1) ks ls e j) ∷ go bs j

pub bounds-of-buckets : (bounds : List ℤ) (ks : List ℕ) → map (λ (b : ℤ × ℕ). b.0) (buckets_of bounds ks) ≡ bounds
bounds-of-buckets bounds ks = go bounds
  where
    go : (bs : List ℤ) → map (λ (b : ℤ × ℕ). b.0) (map (λ bound. (bound, sum_up_to (rank bounds bound + 1) ks)) bs) ≡ bs
    go [] = refl
    go (b ∷ bs) = ap (λ l. b ∷ l) (go bs)

-- ---- one number after another

-- the first n numbers are sums
abbrev pub added_up_to : ℕ → List ℕ → List ℕ → List ℕ
added_up_to zero ks ls = ks
added_up_to (suc n) [] ls = []
added_up_to (suc n) (k ∷ ks) [] = k ∷ ks
added_up_to (suc n) (k ∷ ks) (l ∷ ls) = (k + l) ∷ added_up_to n ks ls

pub added-at : (i : ℕ) (ks ls : List ℕ) → get_or (added_up_to i ks ls) i 0 ≡ get_or ks i 0
added-at zero ks ls = refl
added-at (suc i) [] ls = refl
added-at (suc i) (k ∷ ks) [] = refl
added-at (suc i) (k ∷ ks) (l ∷ ls) = added-at i ks ls

pub added-more : (i : ℕ) (ks ls : List ℕ) → i < length ks → length ks ≡ length ls → set (added_up_to i ks ls) i (get_or ks i 0 + get_or ls i 0) ≡ added_up_to (suc i) ks ls
added-more i [] ls lt e = absurd (omega (arith, lt))
added-more i (k ∷ ks) [] lt e = absurd (omega (arith, e))
added-more zero (k ∷ ks) (l ∷ ls) lt e = refl
added-more (suc i) (k ∷ ks) (l ∷ ls) lt e = ap (λ m. (k + l) ∷ m) (added-more i ks ls (omega (arith, lt)) (omega (arith, e)))

pub added-all : (ks ls : List ℕ) → length ks ≡ length ls → added_up_to (length ls) ks ls ≡ both_ranked ks ls
added-all [] [] e = refl
added-all [] (l ∷ ls) e = refl
added-all (k ∷ ks) [] e = absurd (omega (arith, e))
added-all (k ∷ ks) (l ∷ ls) e = ap (λ m. (k + l) ∷ m) (added-all ks ls (omega (arith, e)))
