-- Buckets in ascending order, by the places of their bounds.
use Rattle.std.proofs.Common.{◌≡◌, ℕ, zero, suc, ◌+◌, ◌<◌, ◌≤◌, List, [], ◌∷◌, ◌++◌, map, length, take, get_or, refl, ap, sym, ◌∙◌, subst, arith}
use Rattle.std.specs.Prelude.{ℤ, pos, Bool, true, false, int_lt, All, if◌then◌else◌}
use Rattle.std.specs.List.{AllByRecursion}
use Rattle.std.proofs.Math.Seq.{take-suc}
use Rattle.std.proofs.lemmas.List.{take_all}
use Rattle.std.proofs.lemmas.List.Elements.{All-from_recursion}
use Rattle.metrics_storage.specs.Histogram.{bucket_placed, with_buckets, ascending, place_added, order_up_to, order_of, buckets_of, rank, sum_up_to, own_ranks}
use Rattle.metrics_storage.proofs.Counting.{get-map, buckets-length, bucket-at}

-- a choice between lists, item by item
map-choice : {A B : Type 0} (g : A → B) (s t : Bool) (xs ys zs : List A)
    → map g (if s then xs else (if t then ys else zs)) ≡ (if s then map g xs else (if t then map g ys else map g zs))
map-choice g true t xs ys zs = refl
map-choice g false true xs ys zs = refl
map-choice g false false xs ys zs = refl

all-choice : {A : Type 0} (P : A → Type 0) (s t : Bool) (xs ys zs : List A)
    → AllByRecursion P xs → AllByRecursion P ys → AllByRecursion P zs → AllByRecursion P (if s then xs else (if t then ys else zs))
all-choice P true t xs ys zs a b c = a
all-choice P false true xs ys zs a b c = b
all-choice P false false xs ys zs a b c = c

-- ---- places are within

added-within : (bounds : List ℤ) (P : ℕ → Type 0) (i : ℕ) (ks : List ℕ) → P i → AllByRecursion P ks → AllByRecursion P (place_added bounds i ks)
added-within bounds P i [] h hs = (h, tt)
added-within bounds P i (k ∷ ks) h hs =
    let x = get_or bounds i (pos 0) in let y = get_or bounds k (pos 0) in
    all-choice P (int_lt x y) (int_lt y x) (i ∷ k ∷ ks) (k ∷ place_added bounds i ks) (k ∷ ks) (h, hs) (hs.0, added-within bounds P i ks h hs.1) hs

order-recursion : (bounds : List ℤ) (n : ℕ) → n ≤ length bounds → AllByRecursion (λ k. k < length bounds) (order_up_to bounds n)
order-recursion bounds zero le = tt
order-recursion bounds (suc n) le =
    added-within bounds (λ k. k < length bounds) n (order_up_to bounds n) (omega (arith, le)) (order-recursion bounds n (omega (arith, le)))

pub order-within : (bounds : List ℤ) (n : ℕ) → n ≤ length bounds → All (λ k. k < length bounds) (order_up_to bounds n)
order-within bounds n le = All-from_recursion (λ k. k < length bounds) (order_up_to bounds n) (order-recursion bounds n le)

-- ---- in order

with-last : (done bs : List (ℤ × ℕ)) (b : ℤ × ℕ) → with_buckets done (bs ++ b ∷ []) ≡ bucket_placed b (with_buckets done bs)
with-last done [] b = refl
with-last done (c ∷ bs) b = with-last (bucket_placed c done) bs b

-- the items at places
abbrev at_places : List (ℤ × ℕ) → List ℕ → List (ℤ × ℕ)
at_places bs ks = map (λ i. get_or bs i (pos 0, 0)) ks

module _ (bounds : List ℤ) (bs : List (ℤ × ℕ)) (is : (i : ℕ) → i < length bounds → (get_or bs i (pos 0, 0)).0 ≡ get_or bounds i (pos 0)) where
  placed-at : (i : ℕ) (ks : List ℕ) → i < length bounds → AllByRecursion (λ k. k < length bounds) ks
      → at_places bs (place_added bounds i ks) ≡ bucket_placed (get_or bs i (pos 0, 0)) (at_places bs ks)
  placed-at i [] lt hs = refl
  placed-at i (k ∷ ks) lt hs =
      let x = get_or bounds i (pos 0) in let y = get_or bounds k (pos 0) in
      let b : ℤ × ℕ = get_or bs i (pos 0, 0) in let c : ℤ × ℕ = get_or bs k (pos 0, 0) in
      let on = placed-at i ks lt hs.1 in let bound = sym (is i lt) in let other = sym (is k hs.0) in
      map-choice (λ i. get_or bs i (pos 0, 0)) (int_lt x y) (int_lt y x) (i ∷ k ∷ ks) (k ∷ place_added bounds i ks) (k ∷ ks)
      ∙ (λ j. if int_lt (bound j) (other j) then b ∷ c ∷ at_places bs ks else (if int_lt (other j) (bound j) then c ∷ on j else c ∷ at_places bs ks))

  in-order : length bs ≡ length bounds → (n : ℕ) → n ≤ length bounds → at_places bs (order_up_to bounds n) ≡ with_buckets [] (take n bs)
  in-order long zero le = refl
  in-order long (suc n) le =
      let b : ℤ × ℕ = get_or bs n (pos 0, 0) in
      placed-at n (order_up_to bounds n) (omega (arith, le)) (order-recursion bounds n (omega (arith, le)))
      ∙ ap (bucket_placed b) (in-order long n (omega (arith, le)))
      ∙ sym (with-last [] (take n bs) b)
      ∙ ap (with_buckets []) (sym (take-suc bs n (pos 0, 0) (omega (arith, le, long))))

-- ---- the buckets of a histogram

-- the buckets at places
abbrev pub shown_at : List ℤ → List ℕ → List ℕ → List (ℤ × ℕ)
shown_at bounds ranks order = map (λ i. get_or (buckets_of bounds ranks) i (pos 0, 0)) order

pub shown-in-order : (bounds : List ℤ) (order ranks : List ℕ) → order ≡ order_of bounds → shown_at bounds ranks order ≡ ascending (buckets_of bounds ranks)
shown-in-order bounds order ranks is =
    let long = buckets-length bounds ranks in let bs : List (ℤ × ℕ) = buckets_of bounds ranks in
    ap (shown_at bounds ranks) is
    ∙ in-order bounds bs (λ i lt. ap (λ (b : ℤ × ℕ). b.0) (get-map (λ bound. (bound, sum_up_to (rank bounds bound + 1) ranks)) bounds i (pos 0) (pos 0, 0) lt))
    long (length bounds) (omega arith)
    ∙ ap (with_buckets []) (take_all (length bounds) bs (omega (arith, long)))

pub place-within : (bounds : List ℤ) (order : List ℕ) (k : ℕ) → order ≡ order_of bounds → k < length order → get_or order k 0 < length bounds
place-within bounds order k is lt =
    subst (λ (o : List ℕ). get_or o k 0 < length bounds) (sym is) (order-within bounds (length bounds) (omega arith) k 0 (omega (arith, ap length is, lt)))

pub bucket-shown : (bounds : List ℤ) (own : List ℕ) → own ≡ own_ranks bounds → (order ranks : List ℕ) (k sum : ℕ) → k < length order → get_or order k 0 < length bounds
    → sum ≡ sum_up_to (get_or own (get_or order k 0) 0 + 1) ranks → (get_or bounds (get_or order k 0) (pos 0), sum) ≡ get_or (shown_at bounds ranks order) k (pos 0, 0)
bucket-shown bounds own is order ranks k sum lt within total =
    bucket-at bounds own is ranks (get_or order k 0) sum within total ∙ sym (get-map (λ i. get_or (buckets_of bounds ranks) i (pos 0, 0)) order k 0 (pos 0, 0) lt)
