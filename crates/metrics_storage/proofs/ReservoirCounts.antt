-- Counting lists of draws.
use Rattle.std.proofs.Common.{◌≡◌, ◌≢◌, ℕ, zero, suc, ◌+◌, ◌*◌, ◌<◌, ◌≤◌, ◌⊎◌, inl, inr, List, [], ◌∷◌, ◌++◌, length, get_or, nat_eq, cond, true, false, refl, ap, sym, ◌∙◌, subst, arith, add-zero, zero-add}
use Rattle.std.specs.Prelude.{min, Bool, ◌&&◌, ◌||◌, Option, None, Some, nat_le}
use Rattle.std.specs.Bool.{Decides}
use Rattle.std.specs.Int.{sum_through}
use Rattle.std.specs.Option.{option_eq}
use Rattle.std.proofs.Math.Nat.{mul_left_comm, mul-zero, zero-mul, one-mul, mul-add, suc-mul}
use Rattle.std.proofs.lemmas.Bool.{cases_lt, cases_eq, eqb-true, eq-eqb, ne_eqb, false≢true, or_left, or_right, or_from}
use Rattle.std.proofs.lemmas.Bool.Decides.{nat_tests, Decides-below_or}
use Rattle.std.proofs.lemmas.Option.{none-some, same_Some}
use Rattle.metrics_storage.specs.Reservoir.{greatest_below, comes_to, item_at}
use Rattle.metrics_storage.specs.Fairness.{some_below, is_kept, KeptHasPlace, count, IsFair}
use Rattle.metrics_storage.proofs.ReservoirPlaces.{length-more, greatest-within, greatest-passes, item_at-here, item_at-other}

-- ---- sums

-- a sum, times n, by its parts
sum-times : (n k : ℕ) (f g : ℕ → ℕ) (i : ℕ) → ((d : ℕ) → d ≤ i → n * f d ≡ k * g d) → n * sum_through f i ≡ k * sum_through g i
sum-times n k f g zero h = h 0 (omega arith)
sum-times n k f g (suc i) h =
    let rest : n * sum_through f i ≡ k * sum_through g i = sum-times n k f g i (λ d l. h d (omega arith)) in
    let last : n * f (suc i) ≡ k * g (suc i) = h (suc i) (omega arith) in
    mul-add n (sum_through f i) (f (suc i)) ∙ ap (λ x. x + n * f (suc i)) rest ∙ ap (λ x. k * sum_through g i + x) last ∙ sym (mul-add k (sum_through g i) (g (suc i)))

-- all parts are one number
sum-same : (f : ℕ → ℕ) (c i : ℕ) → ((d : ℕ) → d ≤ i → f d ≡ c) → sum_through f i ≡ suc i * c
sum-same f c zero h = h 0 (omega arith) ∙ sym (one-mul c)
sum-same f c (suc i) h =
    ap (λ x. x + f (suc i)) (sum-same f c i (λ d l. h d (omega arith)))
    ∙ ap (λ x. suc i * c + x) (h (suc i) (omega arith))
    ∙ sym (suc-mul (suc i) c)

-- the parts below k are one number, and the others are none
sum-front : (f : ℕ → ℕ) (c k i : ℕ) → k ≤ suc i → ((d : ℕ) → d < k → f d ≡ c) → ((d : ℕ) → k ≤ d → d ≤ i → f d ≡ 0) → sum_through f i ≡ k * c
sum-front f c k zero le h g =
    elim (cases_eq k 0) [
      | inl e ↦ g 0 (omega arith) (omega arith) ∙ sym (zero-mul c) ∙ ap (λ x. x * c) (sym e)
      | inr e ↦
          let one : 1 ≡ k = omega (arith, e) in
          h 0 (omega arith) ∙ sym (one-mul c) ∙ ap (λ x. x * c) one
    ]
sum-front f c k (suc i) le h g =
    elim (cases_eq k (suc (suc i))) [
      | inl e ↦ sum-same f c (suc i) (λ d l. h d (omega arith)) ∙ ap (λ x. x * c) (sym e)
      | inr e ↦
          let none : f (suc i) ≡ 0 = g (suc i) (omega (arith, e)) (omega arith) in
          let rest : sum_through f i ≡ k * c = sum-front f c k i (omega (arith, e)) h (λ d l m. g d l (omega arith)) in
          omega (arith, none, rest)
    ]

-- one part is none, and the others are one number
sum-but_one : (f : ℕ → ℕ) (c p i : ℕ) → p ≤ i → f p ≡ 0 → ((d : ℕ) → d ≤ i → d ≢ p → f d ≡ c) → sum_through f i ≡ i * c
sum-but_one f c p zero le h g =
    let here : p ≡ 0 = omega arith in
    ap f (sym here) ∙ h ∙ sym (zero-mul c)
sum-but_one f c p (suc i) le h g =
    elim (cases_eq p (suc i)) [
      | inl e ↦
          let none : f (suc i) ≡ 0 = ap f (sym e) ∙ h in
          let rest : sum_through f i ≡ suc i * c = sum-same f c i (λ d l. g d (omega arith) (λ q. absurd (omega arith))) in
          omega (arith, none, rest)
      | inr e ↦
          ap (λ x. x + f (suc i)) (sum-but_one f c p i (omega (arith, e)) h (λ d l. g d (omega arith)))
          ∙ ap (λ x. i * c + x) (g (suc i) (omega arith) (λ q. e (sym q)))
          ∙ sym (suc-mul i c)
    ]

-- ---- how many lists there are

-- all that go on from i draws by m
lists : ℕ → ℕ → ℕ
lists i zero = 1
lists i (suc m) = suc i * lists (suc i) m

-- those of them that miss one place
misses : ℕ → ℕ → ℕ
misses i zero = 1
misses i (suc m) = i * misses (suc i) m

misses-lists : (i m : ℕ) → (i + m) * misses i m ≡ i * lists i m
unfolding lists misses
misses-lists i zero = ap (λ x. x * 1) (add-zero i)
misses-lists i (suc m) =
    let inner : (suc i + m) * misses (suc i) m ≡ suc i * lists (suc i) m = misses-lists (suc i) m in
    let shift : i + suc m ≡ suc i + m = omega arith in
    ap (λ x. x * (i * misses (suc i) m)) shift
    ∙ mul_left_comm (suc i + m) i (misses (suc i) m)
    ∙ ap (λ x. i * x) inner

count-all : (m : ℕ) (draws : List ℕ) → count m (λ _. true) draws ≡ lists (length draws) m
unfolding lists
count-all zero draws = refl
count-all (suc m) draws =
    sum-same (λ d. count m (λ _. true) (draws ++ d ∷ [])) (lists (suc (length draws)) m) (length draws)
    (λ d l. count-all m (draws ++ d ∷ []) ∙ ap (λ i. lists i m) (length-more draws d))

-- ---- what is kept

some-yes : (n : ℕ) (f : ℕ → Bool) (p : ℕ) → p < n → f p ≡ true → some_below n f ≡ true
some-yes zero f p l e = absurd (omega arith)
some-yes (suc n) f p l e =
    elim (cases_eq n p) [
      | inl q ↦ or_left (f n) (some_below n f) (ap f q ∙ e)
      | inr q ↦ or_right (f n) (some_below n f) (some-yes n f p (omega (arith, q)) e)
    ]

some-no : (n : ℕ) (f : ℕ → Bool) → ((p : ℕ) → p < n → f p ≡ false) → some_below n f ≡ false
some-no zero f h = refl
some-no (suc n) f h = or_from (f n) (some_below n f) (h n (omega arith)) (some-no n f (λ p l. h p (omega arith)))

is_kept-yes : (k j p : ℕ) (draws : List ℕ) → p < k → k ≤ length draws → item_at k draws p ≡ Some j → is_kept k j draws ≡ true
is_kept-yes k j p draws l le e =
    some-yes (min k (length draws)) (λ q. option_eq nat_eq (item_at k draws q) (Some j)) p (omega arith)
    (ap (λ o. option_eq nat_eq o (Some j)) e ∙ eq-eqb j j refl)

is_kept-no : (k j : ℕ) (draws : List ℕ) → ((p : ℕ) → p < k → item_at k draws p ≢ Some j) → is_kept k j draws ≡ false
is_kept-no k j draws h =
    some-no (min k (length draws)) (λ q. option_eq nat_eq (item_at k draws q) (Some j)) (λ p l. other (item_at k draws p) (h p (omega arith)))
  where
    other : (o : Option ℕ) → o ≢ Some j → option_eq nat_eq o (Some j) ≡ false
    other None g = refl
    other (Some i) g = ne_eqb i j (λ e. g (ap Some e))

pub kept-has-place : KeptHasPlace
kept-has-place k j draws =
    Decides-below_or (λ p. option_eq nat_eq (item_at k draws p) (Some j)) (λ p. item_at k draws p ≡ Some j)
    (λ n. some_below n (λ p. option_eq nat_eq (item_at k draws p) (Some j)))
    (λ p. same (item_at k draws p)) refl (λ n. refl) (min k (length draws))
  where
    same : (o : Option ℕ) → Decides (option_eq nat_eq o (Some j)) (o ≡ Some j)
    same None = ((λ h. absurd (false≢true h)), (λ h. absurd (none-some j h)))
    same (Some i) = ((λ h. ap Some (eqb-true i j h)), (λ h. eq-eqb i j (same_Some i j h)))

-- an item is at no second place
one-place : (k j p q : ℕ) (draws : List ℕ) → p < k → q < k → item_at k draws p ≡ Some j → item_at k draws q ≡ Some j → p ≡ q
one-place k j p q draws l m e f =
    test (get_or draws j 0) (greatest-passes (length draws) (comes_to k draws p) j e) (greatest-passes (length draws) (comes_to k draws q) j f)
  where
    test : (x : ℕ) → (nat_eq j p || (nat_le k j && nat_eq x p)) ≡ true → (nat_eq j q || (nat_le k j && nat_eq x q)) ≡ true → p ≡ q
    test x a b = grind (arith, nat_tests)

-- while no draw counted, each item is at its own place
item_at-early : (k p : ℕ) (draws : List ℕ) → length draws ≤ k → p < length draws → item_at k draws p ≡ Some p
item_at-early k p draws le l = only (length draws) (comes_to k draws p) l (here (get_or draws p 0)) (λ i m ne. other i (get_or draws i 0) (omega arith) ne)
  where
    only : (n : ℕ) (f : ℕ → Bool) → p < n → f p ≡ true → ((i : ℕ) → i < n → i ≢ p → f i ≡ false) → greatest_below n f ≡ Some p
    only zero f l e h = absurd (omega arith)
    only (suc n) f l e h =
        elim (cases_eq n p) [
          | inl q ↦ ap (λ b. cond b (Some n) (greatest_below n f)) (ap f q ∙ e) ∙ ap Some q
          | inr q ↦ ap (λ b. cond b (Some n) (greatest_below n f)) (h n (omega arith) q) ∙ only n f (omega (arith, q)) e (λ i m ne. h i (omega arith) ne)
        ]

    here : (x : ℕ) → (nat_eq p p || (nat_le k p && nat_eq x p)) ≡ true
    here x = or_left (nat_eq p p) (nat_le k p && nat_eq x p) (eq-eqb p p refl)

    other : (i x : ℕ) → i < k → i ≢ p → (nat_eq i p || (nat_le k i && nat_eq x p)) ≡ false
    other i x m ne = grind (arith, nat_tests)

-- ---- counting those under which item j is kept

-- once item j is at no place, it is kept under none
count-lost : (m k j : ℕ) (draws : List ℕ) → k ≤ length draws → j < length draws → ((p : ℕ) → p < k → item_at k draws p ≢ Some j) → count m (is_kept k j) draws ≡ 0
count-lost zero k j draws le l h = ap (λ b. cond b 1 0) (is_kept-no k j draws h)
count-lost (suc m) k j draws le l h =
    sum-same (λ d. count m (is_kept k j) (draws ++ d ∷ [])) 0 (length draws)
    (λ d _. count-lost m k j (draws ++ d ∷ []) (omega (arith, length-more draws d)) (omega (arith, length-more draws d)) (λ p u. still d p u))
    ∙ mul-zero (suc (length draws))
  where
    still : (d p : ℕ) → p < k → item_at k (draws ++ d ∷ []) p ≢ Some j
    still d p u e =
        elim (cases_eq d p) [
          | inl q ↦ omega (arith, same_Some (length draws) j (sym (item_at-here k d p draws (inr (le, q))) ∙ e))
          | inr q ↦ h p u (sym (item_at-other k d p draws (λ w. absurd (omega arith)) (λ _. q)) ∙ e)
        ]

-- from where item j is at place p, it is kept under those that miss p
count-held : (m k j p : ℕ) (draws : List ℕ) → p < k → k ≤ length draws → item_at k draws p ≡ Some j → count m (is_kept k j) draws ≡ misses (length draws) m
unfolding misses
count-held zero k j p draws l le e = ap (λ b. cond b 1 0) (is_kept-yes k j p draws l le e)
count-held (suc m) k j p draws l le e =
    sum-but_one (λ d. count m (is_kept k j) (draws ++ d ∷ [])) (misses (suc (length draws)) m) p (length draws) (omega arith)
    (count-lost m k j (draws ++ p ∷ []) (omega (arith, length-more draws p)) (omega (arith, length-more draws p, before)) lost)
    (λ d _ ne.
    count-held m k j p (draws ++ d ∷ []) l (omega (arith, length-more draws d)) (item_at-other k d p draws (λ w. absurd (omega arith)) (λ _. ne) ∙ e)
    ∙ ap (λ i. misses i m) (length-more draws d))
  where
    before : j < length draws
    before = greatest-within (length draws) (comes_to k draws p) j e

    lost : (q : ℕ) → q < k → item_at k (draws ++ p ∷ []) q ≢ Some j
    lost q u f =
        elim (cases_eq p q) [
          | inl w ↦ omega (arith, before, same_Some (length draws) j (sym (item_at-here k p q draws (inr (le, w))) ∙ f))
          | inr w ↦ w (one-place k j p q draws l u e (sym (item_at-other k p q draws (λ z. absurd (omega arith)) (λ _. w)) ∙ f))
        ]

-- once all places are filled and item j has its own
count-full : (m k n j : ℕ) (draws : List ℕ) → j < k → length draws ≡ k → length draws + m ≡ n → n * count m (is_kept k j) draws ≡ k * count m (λ _. true) draws
count-full m k n j draws l full e =
    ap (λ x. n * x) (count-held m k j j draws l (omega arith) (item_at-early k j draws (omega arith) (omega arith)))
    ∙ ap (λ x. x * misses (length draws) m) (sym e)
    ∙ misses-lists (length draws) m
    ∙ ap (λ x. x * lists (length draws) m) full
    ∙ ap (λ x. k * x) (sym (count-all m draws))

-- if item j is the next, and all places are filled
count-next : (m k n j : ℕ) (draws : List ℕ) → k ≤ j → length draws ≡ j → length draws + suc m ≡ n → n * count (suc m) (is_kept k j) draws ≡ k * count (suc m) (λ _. true) draws
unfolding lists
count-next m k n j draws le next e =
    ap (λ x. n * x)
    (sum-front (λ d. count m (is_kept k j) (draws ++ d ∷ [])) (misses (suc (length draws)) m) k (length draws) (omega arith)
    (λ d l.
    count-held m k j d (draws ++ d ∷ []) l (omega (arith, length-more draws d)) (item_at-here k d d draws (inr (omega arith, refl)) ∙ ap Some next)
    ∙ ap (λ i. misses i m) (length-more draws d))
    (λ d l _. count-lost m k j (draws ++ d ∷ []) (omega (arith, length-more draws d)) (omega (arith, length-more draws d)) (λ p u f.
    omega (arith, greatest-within (length draws) (comes_to k draws p) j (sym (item_at-other k d p draws (λ w. absurd (omega arith)) (λ _ w. absurd (omega arith))) ∙ f)))))
    ∙ mul_left_comm n k (misses (suc (length draws)) m)
    ∙ ap (λ x. k * (x * misses (suc (length draws)) m)) all_of
    ∙ ap (λ x. k * x) (misses-lists (suc (length draws)) m)
    ∙ ap (λ x. k * x) (sym (count-all (suc m) draws))
  where
    all_of : n ≡ suc (length draws) + m
    all_of = omega arith

count-open : (m k n j : ℕ) (draws : List ℕ) → k ≤ n → j < n → length draws + m ≡ n → (length draws ≤ j) ⊎ ((j < k) × (length draws ≤ k)) → n * count m (is_kept k j) draws ≡ k * count m (λ _. true) draws
count-open zero k n j draws le l e (inl h) = absurd (omega arith)
count-open zero k n j draws le l e (inr h) = count-full zero k n j draws h.0 (omega arith) e
count-open (suc m) k n j draws le l e h =
    let step : (suc (length draws) ≤ j) ⊎ ((j < k) × (suc (length draws) ≤ k)) → n * count (suc m) (is_kept k j) draws ≡ k * count (suc m) (λ _. true) draws =
    λ g. sum-times n k (λ d. count m (is_kept k j) (draws ++ d ∷ [])) (λ d. count m (λ _. true) (draws ++ d ∷ [])) (length draws)
    (λ d _. count-open m k n j (draws ++ d ∷ []) le l (omega (arith, length-more draws d)) (subst (λ i. (i ≤ j) ⊎ ((j < k) × (i ≤ k))) (sym (length-more draws d)) g)) in
    elim (cases_lt j k) [
      | inl own ↦ elim (cases_eq (length draws) k) [
        | inl full ↦ count-full (suc m) k n j draws own full e
        | inr room ↦ step (inr (own, below own h room))
      ]
      | inr later ↦ elim (cases_eq (length draws) j) [
        | inl next ↦ count-next m k n j draws later next e
        | inr before ↦ step (inl (above later h before))
      ]
    ]
  where
    below : j < k → (length draws ≤ j) ⊎ ((j < k) × (length draws ≤ k)) → length draws ≢ k → suc (length draws) ≤ k
    below own (inl g) ne = omega arith
    below own (inr g) ne = omega (arith, g.1, ne)

    above : k ≤ j → (length draws ≤ j) ⊎ ((j < k) × (length draws ≤ k)) → length draws ≢ j → suc (length draws) ≤ j
    above later (inl g) ne = omega (arith, ne)
    above later (inr g) ne = absurd (omega (arith, g.0))

pub is-fair : IsFair
is-fair k n j le l = count-open n k n j [] le l (zero-add n) (inl (omega arith))
