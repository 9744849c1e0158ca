-- The counts and the sum of runs of equal samples.
use Rattle.std.proofs.Common.{◌≡◌, ◌∙◌, ℕ, zero, suc, ◌+◌, ◌<◌, List, [], ◌∷◌, ◌++◌, map, take, length, get_or, refl, ap, sym, arith, append-nil}
use Rattle.std.specs.Prelude.{ℤ, pos, ◌+ℤ◌, ◌*ℤ◌, replicate}
use Rattle.std.specs.List.{All, AllByRecursion, fold}
use Rattle.std.proofs.Math.IntN.{suc_ℤ-*ℤ, zero-*ℤ}
use Rattle.std.proofs.lemmas.Grind.{flat_map-append}
use Rattle.std.proofs.lemmas.Int.{ints}
use Rattle.std.proofs.lemmas.List.{take_more}
use Rattle.std.proofs.lemmas.List.Elements.{recursion_from_All}
use Rattle.std.proofs.lemmas.List.Sums.{fold-append}
use Rattle.metrics_storage.specs.Histogram.{Distribution, at_most, sum_of, bucket_with}
use Rattle.metrics_storage.proofs.Counting.{same_distribution}
use Rattle.tool_state.specs.Runs.{Run, samples_in, AreSamplesOf}

-- ---- one run

sum-from : (ys : List ℤ) (a : ℤ) → fold ◌+ℤ◌ a ys ≡ a +ℤ sum_of ys
sum-from [] a = omega (arith, ints)
sum-from (y ∷ ys) a = let on = sum-from ys (a +ℤ y) in let own = sum-from ys (pos 0 +ℤ y) in omega (arith, ints, on, own)

pub sum_append : (xs ys : List ℤ) → sum_of (xs ++ ys) ≡ sum_of xs +ℤ sum_of ys
sum_append xs ys = fold-append ◌+ℤ◌ (pos 0) xs ys ∙ sum-from ys (sum_of xs)

pub sum_same : (x : ℤ) (n : ℕ) → sum_of (replicate n x) ≡ pos n *ℤ x
sum_same x zero = sym (zero-*ℤ x)
sum_same x (suc n) =
    let on = sum-from (replicate n x) (pos 0 +ℤ x) in
    let rest = sum_same x n in
    let more : pos (suc n) *ℤ x ≡ pos n *ℤ x +ℤ x = suc_ℤ-*ℤ (pos n) x in
    omega (arith, ints, on, rest, more)

-- ---- one run more

samples-more : (runs : List Run) (i : ℕ) (d : Run) → i < length runs → samples_in (take (i + 1) runs) ≡ samples_in (take i runs) ++ replicate (get_or runs i d).0 (get_or runs i d).1
samples-more runs i d small =
    let one : Run → List ℤ = λ (q : Run). replicate q.0 q.1 in
    let r : Run = get_or runs i d in
    ap samples_in (take_more runs i d small)
    ∙ flat_map-append one (take i runs) (r ∷ []) ∙ ap (λ l. samples_in (take i runs) ++ l) (append-nil (replicate r.0 r.1))

pub sum-more : (runs : List Run) (i : ℕ) (d : Run) → i < length runs
    → sum_of (samples_in (take (i + 1) runs)) ≡ sum_of (samples_in (take i runs)) +ℤ pos (get_or runs i d).0 *ℤ (get_or runs i d).1
sum-more runs i d small =
    ap sum_of (samples-more runs i d small) ∙ sum_append (samples_in (take i runs)) (replicate (get_or runs i d).0 (get_or runs i d).1)
    ∙ ap (λ n. sum_of (samples_in (take i runs)) +ℤ n) (sum_same (get_or runs i d).1 (get_or runs i d).0)

-- ---- all

counted : (xs : List ℤ) (bs : List (ℤ × ℕ)) → AllByRecursion (λ b. b.1 ≡ at_most b.0 xs) bs
    → bs ≡ map (bucket_with xs) (map (λ bound. (bound, 0)) (map (λ (b : ℤ × ℕ). b.0) bs))
counted xs [] h = refl
counted xs (b ∷ bs) h =
    let own : b.1 ≡ 0 + at_most b.0 xs = omega (arith, h.0) in
    λ j. (b.0, own j) ∷ counted xs bs h.1 j

pub are-samples : (runs : List Run) (d : Distribution) (bs : List (ℤ × ℕ)) (n : ℕ) (m : ℤ) → bs ≡ d.buckets → n ≡ d.count → m ≡ d.sum → (0 < n) × (n ≡ length (samples_in runs)) → m ≡ sum_of (samples_in runs)
    → All (λ b. b.1 ≡ at_most b.0 (samples_in runs)) bs → AreSamplesOf runs d
are-samples runs d bs n m is count total (some, number) sum each =
    let P : ℤ × ℕ → Type 0 = λ b. b.1 ≡ at_most b.0 (samples_in runs) in
    let same : (cs : List (ℤ × ℕ)) → bs ≡ cs → cs ≡ map (bucket_with (samples_in runs)) (map (λ bound. (bound, 0)) (map (λ (b : ℤ × ℕ). b.0) cs)) =
    λ cs e. sym e ∙ counted (samples_in runs) bs (recursion_from_All P bs each) ∙ ap (λ l. map (bucket_with (samples_in runs)) (map (λ bound. (bound, 0)) (map (λ (b : ℤ × ℕ). b.0) l))) e in
    (omega (arith, some, count), same_distribution (same d.buckets is) (omega (arith, number, count)) (omega (arith, ints, sum, total)))
