-- Counts of samples by their ranks, and in buckets.
use Rattle.std.proofs.Common.{◌≡◌, ℕ, zero, suc, ◌+◌, ◌<◌, ◌≤◌, inl, inr, cond, true, false, List, [], ◌∷◌, ◌++◌, map, length, take, drop, take_at, set, get_or, replicate, refl, ap, sym, ◌∙◌, arith}
use Rattle.std.specs.Prelude.{ℤ, pos, ◌<ℤ◌, ◌≤ℤ◌, int_lt, int_le, Bool, nat_lt}
use Rattle.std.proofs.lemmas.Int.{ints}
use Rattle.std.proofs.lemmas.Bool.{cases_lt, lt-ltb, le-ltb}
use Rattle.std.proofs.lemmas.List.{length-set, length-map}
use Rattle.std.proofs.lemmas.List.Sums.{sum_by-cons, sum_by_more, count_by-le-length}
use Rattle.metrics_storage.specs.Histogram.{Distribution, at_most, no_samples, bucket_with, rank, sum_up_to, total, buckets_of, ranked, all_ranked, own_ranks}

abbrev one : Bool → ℕ
one b = cond b 1 0

one-suc : (r n : ℕ) → one (nat_lt (suc r) (suc n)) ≡ one (nat_lt r n)
one-suc r n =
    elim (cases_lt r n) [
      | inl h ↦ ap one (lt-ltb (suc r) (suc n) (omega arith)) ∙ sym (ap one (lt-ltb r n h))
      | inr h ↦ ap one (le-ltb (suc r) (suc n) (omega arith)) ∙ sym (ap one (le-ltb r n h))
    ]

-- ---- sums of numbers

sum-none : (n : ℕ) → sum_up_to n [] ≡ 0
sum-none zero = refl
sum-none (suc n) = refl

-- one more at a place is one more in the sums that reach it
sum-set : (ks : List ℕ) (n r : ℕ) → r < length ks → sum_up_to n (set ks r (get_or ks r 0 + 1)) ≡ sum_up_to n ks + one (nat_lt r n)
sum-set [] n r lt = absurd (omega arith)
sum-set (k ∷ ks) zero r lt = ap (λ b. 0 + one b) (sym (le-ltb r 0 (omega arith)))
sum-set (k ∷ ks) (suc n) zero lt = omega (arith, ap one (lt-ltb 0 (suc n) (omega arith)))
sum-set (k ∷ ks) (suc n) (suc r) lt = let on = sum-set ks n r (omega arith) in omega (arith, on, one-suc r n)

pub get-le-total : (ks : List ℕ) (r : ℕ) → r < length ks → get_or ks r 0 ≤ total ks
get-le-total [] r lt = absurd (omega arith)
get-le-total (k ∷ ks) zero lt = omega arith
get-le-total (k ∷ ks) (suc r) lt = omega (arith, get-le-total ks r (omega arith))

pub sum-le-total : (ks : List ℕ) (n : ℕ) → sum_up_to n ks ≤ total ks
sum-le-total ks zero = omega arith
sum-le-total [] (suc n) = omega arith
sum-le-total (k ∷ ks) (suc n) = omega (arith, sum-le-total ks n)

pub sum-next : (ks : List ℕ) (n : ℕ) → n < length ks → sum_up_to (n + 1) ks ≡ sum_up_to n ks + get_or ks n 0
sum-next ks n lt = ap (λ m. sum_up_to m ks) (let e : n + 1 ≡ suc n = omega arith in e) ∙ go ks n lt
  where
    go : (ks : List ℕ) (n : ℕ) → n < length ks → sum_up_to (suc n) ks ≡ sum_up_to n ks + get_or ks n 0
    go [] n lt = absurd (omega arith)
    go (k ∷ ks) zero lt = omega arith
    go (k ∷ ks) (suc n) lt = let on = go ks n (omega arith) in omega (arith, on)

pub sum-more : (ks : List ℕ) (m n : ℕ) → m ≤ n → sum_up_to m ks ≤ sum_up_to n ks
sum-more ks zero n le = omega arith
sum-more [] (suc m) n le = omega arith
sum-more (k ∷ ks) (suc m) zero le = absurd (omega (arith, le))
sum-more (k ∷ ks) (suc m) (suc n) le = let on = sum-more ks m n (omega (arith, le)) in omega (arith, on)

-- ---- ranks

-- how much one bound adds to the rank of x
abbrev adds : ℤ → ℤ → ℕ
adds bound x = cond (int_lt bound x) 1 0

rank-cons : (b : ℤ) (bounds : List ℤ) (x : ℤ) → rank (b ∷ bounds) x ≡ adds b x + rank bounds x
rank-cons b bounds x = sum_by-cons (λ bound. adds bound x) b bounds

adds-more : (c b x : ℤ) → b ≤ℤ x → adds c b ≤ adds c x
adds-more c b x le = by (int_lt c b) (int_lt c x) refl refl
  where
    by : (s t : Bool) → int_lt c b ≡ s → int_lt c x ≡ t → cond s 1 0 ≤ cond t 1 0
    by false t e f = omega arith
    by true true e f = omega arith
    by true false e f = absurd (omega (arith, ints, e, f, le))

rank-more : (bounds : List ℤ) (b x : ℤ) → b ≤ℤ x → rank bounds b ≤ rank bounds x
rank-more [] b x le = omega arith
rank-more (c ∷ bounds) b x le = omega (arith, rank-cons c bounds b, rank-cons c bounds x, adds-more c b x le, rank-more bounds b x le)

-- a sample above a bound has a greater rank than the bound
rank-above : (bounds : List ℤ) (k : ℕ) (d x : ℤ) → k < length bounds → get_or bounds k d <ℤ x → rank bounds (get_or bounds k d) + 1 ≤ rank bounds x
rank-above [] k d x lt above = absurd (omega arith)
rank-above (b ∷ bounds) zero d x lt above =
    let le : b ≤ℤ x = omega (arith, ints, above) in
    let own : adds b b ≡ 0 = grind (arith, ints) in let more : adds b x ≡ 1 = grind (arith, ints) in
    omega (arith, rank-cons b bounds b, rank-cons b bounds x, own, more, rank-more bounds b x le)
rank-above (c ∷ bounds) (suc k) d x lt above =
    let b = get_or bounds k d in let le : b ≤ℤ x = omega (arith, ints, above) in
    omega (arith, rank-cons c bounds b, rank-cons c bounds x, adds-more c b x le, rank-above bounds k d x (omega arith) above)

-- a sample is at most a bound if its rank is at most the bound's
rank-tells : (bounds : List ℤ) (k : ℕ) (d x : ℤ) → k < length bounds → one (nat_lt (rank bounds x) (rank bounds (get_or bounds k d) + 1)) ≡ one (int_le x (get_or bounds k d))
rank-tells bounds k d x lt = by (int_le x b) refl
  where
    b : ℤ
    b = get_or bounds k d

    by : (t : Bool) → int_le x b ≡ t → one (nat_lt (rank bounds x) (rank bounds b + 1)) ≡ one t
    by true e = ap one (lt-ltb (rank bounds x) (rank bounds b + 1) (omega (arith, rank-more bounds x b (omega (arith, ints, e)))))
    by false e = ap one (le-ltb (rank bounds x) (rank bounds b + 1) (omega (arith, rank-above bounds k d x lt (omega (arith, ints, e)))))

pub rank-le : (bounds : List ℤ) (x : ℤ) → rank bounds x ≤ length bounds
rank-le bounds x = count_by-le-length (λ bound. int_lt bound x) bounds

-- one bound more of those so far
pub rank-next : (bounds : List ℤ) (x : ℤ) (i : ℕ) → i < length bounds → rank (take (i + 1) bounds) x ≡ rank (take i bounds) x + adds (get_or bounds i (pos 0)) x
rank-next bounds x i lt = sum_by_more (λ bound. adds bound x) bounds i (pos 0) lt

-- ---- one sample

at_most-one : (b x : ℤ) → at_most b (x ∷ []) ≡ one (int_le x b)
at_most-one b x = omega arith

map-elements : {A B : Type 0} (f g : A → B) (xs : List A) → ((k : ℕ) (d : A) → k < length xs → f (get_or xs k d) ≡ g (get_or xs k d)) → map f xs ≡ map g xs
map-elements f g [] h = refl
map-elements f g (x ∷ xs) h = λ j. h 0 x (omega arith) j ∷ map-elements f g xs (λ k d lt. h (suc k) d (omega arith)) j

map-map : {A B C : Type 0} (g : B → C) (f : A → B) (xs : List A) → map g (map f xs) ≡ map (λ x. g (f x)) xs
map-map g f [] = refl
map-map g f (x ∷ xs) = ap (λ l. g (f x) ∷ l) (map-map g f xs)

module _ (bounds : List ℤ) where
  pub length-ranked : (x : ℤ) (ranks : List ℕ) → length (ranked bounds x ranks) ≡ length ranks
  length-ranked x ranks = length-set ranks (rank bounds x) (get_or ranks (rank bounds x) 0 + 1)

  pub total-ranked : (x : ℤ) (ranks : List ℕ) → length ranks ≡ length bounds + 1 → total (ranked bounds x ranks) ≡ total ranks + 1
  total-ranked x ranks same =
      let r = rank bounds x in let within : r < length ranks = omega (arith, same, rank-le bounds x) in
      ap (λ n. sum_up_to n (ranked bounds x ranks)) (length-ranked x ranks) ∙ sum-set ranks (length ranks) r within
      ∙ ap (λ b. total ranks + one b) (lt-ltb r (length ranks) within)

  pub buckets-ranked : (x : ℤ) (ranks : List ℕ) → length ranks ≡ length bounds + 1 → buckets_of bounds (ranked bounds x ranks) ≡ map (bucket_with (x ∷ [])) (buckets_of bounds ranks)
  buckets-ranked x ranks same =
      let r = rank bounds x in let within : r < length ranks = omega (arith, same, rank-le bounds x) in
      map-elements _ _ bounds (λ k d lt. let b = get_or bounds k d in
      λ j. (b, (sum-set ranks (rank bounds b + 1) r within ∙ ap (λ n. sum_up_to (rank bounds b + 1) ranks + n) (rank-tells bounds k d x lt ∙ sym (at_most-one b x))) j))
      ∙ sym (map-map (bucket_with (x ∷ [])) (λ bound. (bound, sum_up_to (rank bounds bound + 1) ranks)) bounds)

-- ---- more samples

at_most-cons : (b x : ℤ) (samples : List ℤ) → at_most b (x ∷ samples) ≡ at_most b (x ∷ []) + at_most b samples
at_most-cons b x samples = sum_by-cons (λ y. cond (int_le y b) 1 0) x samples ∙ ap (λ n. n + at_most b samples) (sym (at_most-one b x))

bucket-cons : (x : ℤ) (samples : List ℤ) (bs : List (ℤ × ℕ)) → map (bucket_with samples) (map (bucket_with (x ∷ [])) bs) ≡ map (bucket_with (x ∷ samples)) bs
bucket-cons x samples [] = refl
bucket-cons x samples (b ∷ bs) =
    let e : b.1 + at_most b.0 (x ∷ []) + at_most b.0 samples ≡ b.1 + at_most b.0 (x ∷ samples) = omega (arith, at_most-cons b.0 x samples) in
    λ j. (b.0, e j) ∷ bucket-cons x samples bs j

bucket-none : (bs : List (ℤ × ℕ)) → map (bucket_with []) bs ≡ bs
bucket-none [] = refl
bucket-none (b ∷ bs) = let e : b.1 + 0 ≡ b.1 = omega arith in λ j. (b.0, e j) ∷ bucket-none bs j

module _ (bounds : List ℤ) where
  pub length-all_ranked : (samples : List ℤ) (ranks : List ℕ) → length (all_ranked bounds samples ranks) ≡ length ranks
  length-all_ranked [] ranks = refl
  length-all_ranked (x ∷ samples) ranks = length-all_ranked samples (ranked bounds x ranks) ∙ length-ranked bounds x ranks

  pub total-all_ranked : (samples : List ℤ) (ranks : List ℕ) → length ranks ≡ length bounds + 1 → total (all_ranked bounds samples ranks) ≡ total ranks + length samples
  total-all_ranked [] ranks same = omega arith
  total-all_ranked (x ∷ samples) ranks same =
      let on = total-all_ranked samples (ranked bounds x ranks) (length-ranked bounds x ranks ∙ same) in omega (arith, on, total-ranked bounds x ranks same)

  pub buckets-all_ranked : (samples : List ℤ) (ranks : List ℕ) → length ranks ≡ length bounds + 1 → buckets_of bounds (all_ranked bounds samples ranks) ≡ map (bucket_with samples) (buckets_of bounds ranks)
  buckets-all_ranked [] ranks same = sym (bucket-none (buckets_of bounds ranks))
  buckets-all_ranked (x ∷ samples) ranks same =
      buckets-all_ranked samples (ranked bounds x ranks) (length-ranked bounds x ranks ∙ same) ∙ ap (map (bucket_with samples)) (buckets-ranked bounds x ranks same)
      ∙ bucket-cons x samples (buckets_of bounds ranks)

  -- a sample more is counted after the others
  pub all_ranked-more : (samples : List ℤ) (x : ℤ) (ranks : List ℕ) → all_ranked bounds (samples ++ x ∷ []) ranks ≡ ranked bounds x (all_ranked bounds samples ranks)
  all_ranked-more [] x ranks = refl
  all_ranked-more (y ∷ samples) x ranks = all_ranked-more samples x (ranked bounds y ranks)

-- ---- no samples

sum-zeros : (n m : ℕ) → sum_up_to n (replicate m 0) ≡ 0
sum-zeros zero m = refl
sum-zeros (suc n) zero = refl
sum-zeros (suc n) (suc m) = let on = sum-zeros n m in omega (arith, on)

pub total-zeros : (m : ℕ) → total (replicate m 0) ≡ 0
total-zeros m = sum-zeros (length (replicate m 0)) m

pub buckets-zeros : (bounds : List ℤ) (m : ℕ) → buckets_of bounds (replicate m 0) ≡ (no_samples bounds).buckets
buckets-zeros bounds m = map-elements _ _ bounds (λ k d lt. let b = get_or bounds k d in λ j. (b, sum-zeros (rank bounds b + 1) m j))

-- ---- fields

-- what a borrowed vector holds once as many items are written back
pub refilled : {A : Type 0} (n : ℕ) (xs ys : List A) → n ≡ length xs → length ys ≡ length xs → take n (ys ++ drop (length ys) xs) ≡ ys
refilled n xs ys e l = take_at ys (drop (length ys) xs) n (l ∙ sym e)

pub same_distribution : {xs ys : List (ℤ × ℕ)} {m n : ℕ} {x y : ℤ} → xs ≡ ys → m ≡ n → x ≡ y → Path Distribution (record { buckets = xs; count = m; sum = x }) (record { buckets = ys; count = n; sum = y })
same_distribution p e q = λ j. record { buckets = p j; count = e j; sum = q j }

pub get-map : {A B : Type 0} (f : A → B) (xs : List A) (i : ℕ) (d : A) (e : B) → i < length xs → get_or (map f xs) i e ≡ f (get_or xs i d)
get-map f [] i d e lt = absurd (omega arith)
get-map f (x ∷ xs) zero d e lt = refl
get-map f (x ∷ xs) (suc i) d e lt = get-map f xs i d e (omega arith)

-- a list around one of its items
pub split-at : {A : Type 0} (xs : List A) (i : ℕ) (d : A) → i < length xs → xs ≡ take i xs ++ get_or xs i d ∷ drop (suc i) xs
split-at [] i d lt = absurd (omega (arith, lt))
split-at (x ∷ xs) zero d lt = refl
split-at (x ∷ xs) (suc i) d lt = ap (λ l. x ∷ l) (split-at xs i d (omega (arith, lt)))

-- ---- a bucket by the rank that is kept of its bound

module _ (bounds : List ℤ) (own : List ℕ) (is : own ≡ own_ranks bounds) where
  pub own-length : length own ≡ length bounds
  own-length = ap length is ∙ length-map {B = ℕ} bounds (rank bounds)

  own-at : (i : ℕ) → i < length bounds → get_or own i 0 ≡ rank bounds (get_or bounds i (pos 0))
  own-at i lt = ap (λ l. get_or l i 0) is ∙ get-map (rank bounds) bounds i (pos 0) 0 lt

  pub own-within : (i : ℕ) → i < length bounds → get_or own i 0 ≤ length bounds
  own-within i lt = omega (arith, own-at i lt, rank-le bounds (get_or bounds i (pos 0)))

  pub bucket-at : (ranks : List ℕ) (i sum : ℕ) → i < length bounds → sum ≡ sum_up_to (get_or own i 0 + 1) ranks → (get_or bounds i (pos 0), sum) ≡ get_or (buckets_of bounds ranks) i (pos 0, 0)
  bucket-at ranks i sum lt total =
      let count = total ∙ ap (λ r. sum_up_to (r + 1) ranks) (own-at i lt) in
      (λ j. (get_or bounds i (pos 0), count j)) ∙ sym (get-map (λ bound. (bound, sum_up_to (rank bounds bound + 1) ranks)) bounds i (pos 0) (pos 0, 0) lt)

pub buckets-length : (bounds : List ℤ) (ranks : List ℕ) → length (buckets_of bounds ranks) ≡ length bounds
buckets-length bounds ranks = length-map {B = ℤ × ℕ} bounds (λ bound. (bound, sum_up_to (rank bounds bound + 1) ranks))
