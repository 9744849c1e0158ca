-- A histogram over bounds, and what samples add to it.
use Rattle.std.specs.Prelude.{ℕ, zero, suc, ◌+◌, ◌*◌, ◌^◌, ℤ, pos, neg_ℤ, ◌+ℤ◌, ◌≤ℤ◌, int_le, int_lt, List, [], ◌∷◌, map, length, fold, slice_set, slice_index}
use Rattle.std.specs.Prelude.{◌≡◌, ◌↔◌, ◌++◌, ◌<ℤ◌, if◌then◌else◌, slice_index_or, Contains, AllPairs}
use Rattle.std.specs.List.{count_by, zip, FoldsTo}
use Rattle.std.specs.Fn.{Mut, Called, Takes}

-- each bound with the number of samples at most it, and the count and the sum of all samples
pub record Distribution : Type 0 where
  pub buckets : List (ℤ × ℕ)
  pub count : ℕ
  pub sum : ℤ

-- the number of samples that are at most the bound
abbrev pub at_most : ℤ → List ℤ → ℕ
at_most bound samples = count_by (λ x. int_le x bound) samples

abbrev pub sum_of : List ℤ → ℤ
sum_of samples = fold ◌+ℤ◌ (pos 0) samples

-- no samples
abbrev pub no_samples : List ℤ → Distribution
no_samples bounds = record { buckets = map (λ bound. (bound, 0)) bounds; count = 0; sum = pos 0 }

-- a bucket with more samples
abbrev pub bucket_with : List ℤ → ℤ × ℕ → ℤ × ℕ
bucket_with samples b = (b.0, b.1 + at_most b.0 samples)

-- the same histogram with more samples
abbrev pub with_samples : List ℤ → Distribution → Distribution
with_samples samples h = record {
  buckets = map (bucket_with samples) h.buckets;
  count = h.count + length samples;
  sum = h.sum +ℤ sum_of samples;
}

-- ---- two histograms

-- the bounds of the buckets, in their order
abbrev pub bounds_of : Distribution → List ℤ
bounds_of h = map (λ b. b.0) h.buckets

-- the samples of both, if their bounds are the same
abbrev pub merged : Distribution → Distribution → Distribution
merged h g = record {
  buckets = map (λ p. (p.0.0, p.0.1 + p.1.1)) (zip h.buckets g.buckets);
  count = h.count + g.count;
  sum = h.sum +ℤ g.sum;
}

-- merging adds the samples of the other histogram
abbrev pub MergingAddsSamples : Type 0
MergingAddsSamples = (xs ys : List ℤ) (h : Distribution) → merged (with_samples xs h) (with_samples ys (no_samples (bounds_of h))) ≡ with_samples (xs ++ ys) h

-- ---- in ascending order

-- the buckets with one more in its place; a bound that is there already does not come again
abbrev pub bucket_placed : ℤ × ℕ → List (ℤ × ℕ) → List (ℤ × ℕ)
bucket_placed b [] = b ∷ []
bucket_placed b (c ∷ cs) = if int_lt b.0 c.0 then b ∷ c ∷ cs else (if int_lt c.0 b.0 then c ∷ bucket_placed b cs else c ∷ cs)

abbrev pub with_buckets : List (ℤ × ℕ) → List (ℤ × ℕ) → List (ℤ × ℕ)
with_buckets done [] = done
with_buckets done (b ∷ bs) = with_buckets (bucket_placed b done) bs

-- each bound once, in ascending order, with the number of samples at most it
abbrev pub ascending : List (ℤ × ℕ) → List (ℤ × ℕ)
ascending buckets = with_buckets [] buckets

-- a bucket has the bound
abbrev pub HasBound : List (ℤ × ℕ) → ℤ → Type 0
HasBound buckets bound = (b : ℤ × ℕ) × Contains buckets b × (b.0 ≡ bound)

-- they ascend by their bounds, have each bound of the others and no more, and are among them
pub record IsAscendingOf (buckets shown : List (ℤ × ℕ)) : Type 0 where
  pub ascend : AllPairs (λ a b. a.0 <ℤ b.0) shown
  pub bounds : (bound : ℤ) → HasBound buckets bound ↔ HasBound shown bound
  pub among : (b : ℤ × ℕ) → Contains shown b → Contains buckets b

-- buckets in ascending order are those
abbrev pub AscendingIsInOrder : Type 0
AscendingIsInOrder = (buckets : List (ℤ × ℕ)) → IsAscendingOf buckets (ascending buckets)

-- ---- the fields

-- how many of the bounds are below x
abbrev pub rank : List ℤ → ℤ → ℕ
rank bounds x = count_by (λ bound. int_lt bound x) bounds

-- the rank of each bound
abbrev pub own_ranks : List ℤ → List ℕ
own_ranks bounds = map (rank bounds) bounds

-- the places of bounds with one more in its own place; a bound that is there already does not come again
abbrev pub place_added : List ℤ → ℕ → List ℕ → List ℕ
place_added bounds i [] = i ∷ []
place_added bounds i (k ∷ ks) =
    if int_lt (slice_index_or bounds i (pos 0)) (slice_index_or bounds k (pos 0)) then i ∷ k ∷ ks
    else (if int_lt (slice_index_or bounds k (pos 0)) (slice_index_or bounds i (pos 0)) then k ∷ place_added bounds i ks else k ∷ ks)

-- the places of the first n bounds in ascending order, equal bounds once
abbrev pub order_up_to : List ℤ → ℕ → List ℕ
order_up_to bounds zero = []
order_up_to bounds (suc n) = place_added bounds n (order_up_to bounds n)

-- and of all
abbrev pub order_of : List ℤ → List ℕ
order_of bounds = order_up_to bounds (length bounds)

-- the sum of the first n numbers, and of all
abbrev pub sum_up_to : ℕ → List ℕ → ℕ
sum_up_to zero ks = 0
sum_up_to (suc n) [] = 0
sum_up_to (suc n) (k ∷ ks) = k + sum_up_to n ks

abbrev pub total : List ℕ → ℕ
total ks = sum_up_to (length ks) ks

-- the buckets, from the numbers of samples at each rank
abbrev pub buckets_of : List ℤ → List ℕ → List (ℤ × ℕ)
buckets_of bounds ranks = map (λ bound. (bound, sum_up_to (rank bounds bound + 1) ranks)) bounds

-- a sample is counted at its rank
abbrev pub ranked : List ℤ → ℤ → List ℕ → List ℕ
ranked bounds x ranks = slice_set ranks (rank bounds x) (slice_index ranks (rank bounds x) + 1)

abbrev pub all_ranked : List ℤ → List ℤ → List ℕ → List ℕ
all_ranked bounds [] ranks = ranks
all_ranked bounds (x ∷ samples) ranks = all_ranked bounds samples (ranked bounds x ranks)

-- the sums at each place, of numbers at as many places
abbrev pub both_ranked : List ℕ → List ℕ → List ℕ
both_ranked ks ls = map (λ p. p.0 + p.1) (zip ks ls)

-- a sum of so many i64
abbrev pub IsSumOf : ℕ → ℤ → Type 0
IsSumOf count sum = (neg_ℤ (pos (2 ^ 63 * count)) ≤ℤ sum) × (sum ≤ℤ pos (2 ^ 63 * count))

-- ---- a visit

-- calls of f at each bucket, in order, left it as it is in last
abbrev pub ShowsBuckets : {F : Type 0} → Mut F (ℤ × (ℕ × Unit {0})) (Unit {0}) → F → List (ℤ × ℕ) → F → Type 0
ShowsBuckets g f bs last = FoldsTo (λ p b q. Called g p (b.0, (b.1, tt)) tt q) f bs last

-- f may be called at each bucket, as calls at those before it left it
pub record TakesBuckets {F : Type 0} (g : Mut F (ℤ × (ℕ × Unit {0})) (Unit {0})) (f : F) (bs : List (ℤ × ℕ)) : Type 0 where
  pub at : (before after : List (ℤ × ℕ)) (f' : F) (b : ℤ × ℕ) → bs ≡ before ++ b ∷ after → ShowsBuckets g f before f' → Takes g f' (b.0, (b.1, tt))
