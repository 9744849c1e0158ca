-- What one more push does to the places.
use Rattle.std.proofs.Common.{◌≡◌, ◌≢◌, ℕ, zero, suc, ◌<◌, ◌≤◌, ◌⊎◌, inl, inr, List, [], ◌∷◌, ◌++◌, length, get_or, set, nat_eq, cond, true, false, refl, ap, sym, ◌∙◌, subst, arith, length-append, append_assoc, append-nil, add-one}
use Rattle.std.specs.Prelude.{ℤ, Bool, ◌&&◌, ◌||◌, map, slice_get, slice_set, None, Some, MatchOption, nat_lt, nat_le}
use Rattle.std.specs.Bool.{Decides}
use Rattle.std.specs.Option.{option_and_then}
use Rattle.std.proofs.lemmas.Bool.{cases_lt, cases_eq, lt-ltb, le-ltb, le-leb, leb-true}
use Rattle.std.proofs.lemmas.Bool.Decides.{nat_tests, Decides-eqb, Decides-or, Decides-and, not_from_Decides}
use Rattle.std.proofs.lemmas.Option.{none-some, same_Some}
use Rattle.std.proofs.lemmas.List.{length-set, get_or_append_left}
use Rattle.std.proofs.Math.Seq.{get_or-append_seam}
use Rattle.metrics_storage.specs.Reservoir.{place_step, steps_from, greatest_below, comes_to, ComesTo, CameLast, ItemsCameLast, item_at, HoldsLast, StepsHoldLast}

-- ---- lists by their elements

slice_get-left : {A : Type 0} (xs ys : List A) (i : ℕ) → i < length xs → slice_get (xs ++ ys) i ≡ slice_get xs i
slice_get-left [] ys i h = absurd (omega arith)
slice_get-left (x ∷ xs) ys zero h = refl
slice_get-left (x ∷ xs) ys (suc i) h = slice_get-left xs ys i (omega arith)

slice_get-seam : {A : Type 0} (xs : List A) (y : A) (ys : List A) → slice_get (xs ++ y ∷ ys) (length xs) ≡ Some y
slice_get-seam [] y ys = refl
slice_get-seam (x ∷ xs) y ys = slice_get-seam xs y ys

slice_get-set : {A : Type 0} (xs : List A) (i : ℕ) (v : A) → i < length xs → slice_get (set xs i v) i ≡ Some v
slice_get-set [] i v h = absurd (omega arith)
slice_get-set (x ∷ xs) zero v h = refl
slice_get-set (x ∷ xs) (suc i) v h = slice_get-set xs i v (omega arith)

slice_get-set_other : {A : Type 0} (xs : List A) (i p : ℕ) (v : A) → i ≢ p → slice_get (set xs i v) p ≡ slice_get xs p
slice_get-set_other [] i p v h = refl
slice_get-set_other (x ∷ xs) zero zero v h = absurd (h refl)
slice_get-set_other (x ∷ xs) zero (suc p) v h = refl
slice_get-set_other (x ∷ xs) (suc i) zero v h = refl
slice_get-set_other (x ∷ xs) (suc i) (suc p) v h = slice_get-set_other xs i p v (λ e. h (omega arith))

pub length-more : {A : Type 0} (xs : List A) (x : A) → length (xs ++ x ∷ []) ≡ suc (length xs)
length-more xs x = length-append xs (x ∷ []) ∙ add-one (length xs)

-- ---- the greatest number below n

pub greatest-within : (n : ℕ) (f : ℕ → Bool) (i : ℕ) → greatest_below n f ≡ Some i → i < n
greatest-within zero f i e = absurd (none-some i e)
greatest-within (suc n) f i e =
    elim (f n) as (λ b. cond b (Some n) (greatest_below n f) ≡ Some i → i < suc n) [
      | true ↦ λ h. omega (arith, same_Some n i h)
      | false ↦ λ h. omega (arith, greatest-within n f i h)
    ] e

pub greatest-passes : (n : ℕ) (f : ℕ → Bool) (i : ℕ) → greatest_below n f ≡ Some i → f i ≡ true
greatest-passes zero f i e = absurd (none-some i e)
greatest-passes (suc n) f i e =
    elim (f n) as (λ b. f n ≡ b → cond b (Some n) (greatest_below n f) ≡ Some i → f i ≡ true) [
      | true ↦ λ t h. subst (λ x. f x ≡ true) (same_Some n i h) t
      | false ↦ λ t h. greatest-passes n f i h
    ] refl e

greatest-none : (n : ℕ) (f : ℕ → Bool) → greatest_below n f ≡ None → (i : ℕ) → i < n → f i ≡ false
greatest-none zero f e i l = absurd (omega arith)
greatest-none (suc n) f e i l =
    elim (f n) as (λ b. f n ≡ b → cond b (Some n) (greatest_below n f) ≡ None → f i ≡ false) [
      | true ↦ λ t h. absurd (none-some n (sym h))
      | false ↦ λ t h. elim (cases_eq n i) [
        | inl q ↦ subst (λ x. f x ≡ false) q t
        | inr q ↦ greatest-none n f h i (omega (arith, q))
      ]
    ] refl e

greatest-above : (n : ℕ) (f : ℕ → Bool) (i : ℕ) → greatest_below n f ≡ Some i → (j : ℕ) → i < j → j < n → f j ≡ false
greatest-above zero f i e j l m = absurd (omega arith)
greatest-above (suc n) f i e j l m =
    elim (f n) as (λ b. f n ≡ b → cond b (Some n) (greatest_below n f) ≡ Some i → f j ≡ false) [
      | true ↦ λ t h. absurd (omega (arith, same_Some n i h))
      | false ↦ λ t h. elim (cases_eq n j) [
        | inl q ↦ subst (λ x. f x ≡ false) q t
        | inr q ↦ greatest-above n f i h j l (omega (arith, q))
      ]
    ] refl e

comes_to-Decides : (k : ℕ) (draws : List ℕ) (p i : ℕ) → Decides (comes_to k draws p i) (ComesTo k draws p i)
comes_to-Decides k draws p i =
    Decides-or (nat_eq i p) (nat_le k i && nat_eq (get_or draws i 0) p) (Decides-eqb i p)
    (Decides-and (nat_le k i) (nat_eq (get_or draws i 0) p) (leb-true k i, le-leb k i) (Decides-eqb (get_or draws i 0) p))

pub items-came-last : ItemsCameLast
items-came-last k p draws =
    elim (item_at k draws p) as (λ o. item_at k draws p ≡ o → MatchOption o ((i : ℕ) → i < length draws → ¬ ComesTo k draws p i) (CameLast k draws p)) [
      | None ↦ λ e i l. not_from_Decides (comes_to k draws p i) (comes_to-Decides k draws p i) (greatest-none (length draws) (comes_to k draws p) e i l)
      | Some i ↦ λ e. record {
        within = greatest-within (length draws) (comes_to k draws p) i e;
        comes = (comes_to-Decides k draws p i).0 (greatest-passes (length draws) (comes_to k draws p) i e);
        none_later = λ j l m. not_from_Decides (comes_to k draws p j) (comes_to-Decides k draws p j) (greatest-above (length draws) (comes_to k draws p) i e j l m);
      }
    ] refl

greatest-same : (n : ℕ) (f g : ℕ → Bool) → ((i : ℕ) → i < n → f i ≡ g i) → greatest_below n f ≡ greatest_below n g
greatest-same zero f g h = refl
greatest-same (suc n) f g h =
    ap (λ b. cond b (Some n) (greatest_below n f)) (h n (omega arith))
    ∙ ap (λ o. cond (g n) (Some n) o) (greatest-same n f g (λ i l. h i (omega arith)))

-- ---- one more draw

comes-before : (k d p i : ℕ) (draws : List ℕ) → i < length draws → comes_to k (draws ++ d ∷ []) p i ≡ comes_to k draws p i
comes-before k d p i draws h = ap (λ x. nat_eq i p || (nat_le k i && nat_eq x p)) (get_or_append_left draws (d ∷ []) 0 i h)

comes-last : (k d p : ℕ) (draws : List ℕ) → comes_to k (draws ++ d ∷ []) p (length draws) ≡ (nat_eq (length draws) p || (nat_le k (length draws) && nat_eq d p))
comes-last k d p draws = ap (λ x. nat_eq (length draws) p || (nat_le k (length draws) && nat_eq x p)) (get_or-append_seam draws d [] 0)

pub item_at-more : (k d p : ℕ) (draws : List ℕ) → item_at k (draws ++ d ∷ []) p ≡ cond (nat_eq (length draws) p || (nat_le k (length draws) && nat_eq d p)) (Some (length draws)) (item_at k draws p)
item_at-more k d p draws =
    ap (λ n. greatest_below n (comes_to k (draws ++ d ∷ []) p)) (length-more draws d)
    ∙ ap (λ b. cond b (Some (length draws)) (greatest_below (length draws) (comes_to k (draws ++ d ∷ []) p))) (comes-last k d p draws)
    ∙ ap (λ o. cond (nat_eq (length draws) p || (nat_le k (length draws) && nat_eq d p)) (Some (length draws)) o)
    (greatest-same (length draws) (comes_to k (draws ++ d ∷ []) p) (comes_to k draws p) (λ i l. comes-before k d p i draws l))

-- the next item comes to place p
pub item_at-here : (k d p : ℕ) (draws : List ℕ) → (length draws ≡ p) ⊎ ((k ≤ length draws) × (d ≡ p)) → item_at k (draws ++ d ∷ []) p ≡ Some (length draws)
item_at-here k d p draws h =
    item_at-more k d p draws ∙ ap (λ b. cond b (Some (length draws)) (item_at k draws p)) (test (length draws) h)
  where
    test : (n : ℕ) → (n ≡ p) ⊎ ((k ≤ n) × (d ≡ p)) → (nat_eq n p || (nat_le k n && nat_eq d p)) ≡ true
    test n h = grind (arith, nat_tests)

-- it doesn't
pub item_at-other : (k d p : ℕ) (draws : List ℕ) → length draws ≢ p → (k ≤ length draws → d ≢ p) → item_at k (draws ++ d ∷ []) p ≡ item_at k draws p
item_at-other k d p draws h g =
    item_at-more k d p draws ∙ ap (λ b. cond b (Some (length draws)) (item_at k draws p)) (test (length draws) h g)
  where
    test : (n : ℕ) → n ≢ p → (k ≤ n → d ≢ p) → (nat_eq n p || (nat_le k n && nat_eq d p)) ≡ false
    test n h g = grind (arith, nat_tests)

-- ---- one more push

found : (k d p : ℕ) (v : ℤ) (values : List ℤ) (draws : List ℕ) → length values ≡ length draws → item_at k (draws ++ d ∷ []) p ≡ Some (length draws) → option_and_then (slice_get (values ++ v ∷ [])) (item_at k (draws ++ d ∷ []) p) ≡ Some v
found k d p v values draws same e =
    ap (λ o. option_and_then (slice_get (values ++ v ∷ [])) o) e
    ∙ ap (λ i. slice_get (values ++ v ∷ []) i) (sym same)
    ∙ slice_get-seam values v []

stays : (k d p : ℕ) (v : ℤ) (values : List ℤ) (draws : List ℕ) → length values ≡ length draws → item_at k (draws ++ d ∷ []) p ≡ item_at k draws p → option_and_then (slice_get (values ++ v ∷ [])) (item_at k (draws ++ d ∷ []) p) ≡ option_and_then (slice_get values) (item_at k draws p)
stays k d p v values draws same e =
    ap (λ o. option_and_then (slice_get (values ++ v ∷ [])) o) e
    ∙ elim (item_at k draws p) as (λ o. item_at k draws p ≡ o → option_and_then (slice_get (values ++ v ∷ [])) o ≡ option_and_then (slice_get values) o) [
      | None ↦ λ h. refl
      | Some i ↦ λ h. slice_get-left values (v ∷ []) i (omega (arith, greatest-within (length draws) (comes_to k draws p) i h))
    ] refl

held-more : (k d : ℕ) (v : ℤ) (values : List ℤ) (draws : List ℕ) (held : List ℤ) → length values ≡ length draws → HoldsLast k values draws held → HoldsLast k (values ++ v ∷ []) (draws ++ d ∷ []) (place_step k (length draws) v d held)
held-more k d v values draws held same h =
    elim (cases_lt (length draws) k) [
      | inl below ↦
          let step : place_step k (length draws) v d held ≡ held ++ v ∷ [] = ap (λ b. cond b (held ++ v ∷ []) (cond (nat_lt d k) (slice_set held d v) held)) (lt-ltb (length draws) k below) in
          subst (λ xs. HoldsLast k (values ++ v ∷ []) (draws ++ d ∷ []) xs) (sym step) (record {
            places = omega (arith, length-more held v, length-more draws d, h.places);
            last = λ p l. elim (cases_eq (length draws) p) [
              | inl e ↦
                  let here : length held ≡ p = omega (arith, h.places) in
                  ap (λ i. slice_get (held ++ v ∷ []) i) (sym here) ∙ slice_get-seam held v [] ∙ sym (found k d p v values draws same (item_at-here k d p draws (inl e)))
              | inr e ↦
                  let within : p < length held = omega (arith, length-more held v, h.places, e) in
                  slice_get-left held (v ∷ []) p within ∙ h.last p within ∙ sym (stays k d p v values draws same (item_at-other k d p draws e (λ g. absurd (omega arith))))
            ];
          })
      | inr full ↦
          let step : place_step k (length draws) v d held ≡ cond (nat_lt d k) (slice_set held d v) held = ap (λ b. cond b (held ++ v ∷ []) (cond (nat_lt d k) (slice_set held d v) held)) (le-ltb (length draws) k full) in
          subst (λ xs. HoldsLast k (values ++ v ∷ []) (draws ++ d ∷ []) xs) (sym step) (elim (cases_lt d k) [
            | inl below ↦
                let put : cond (nat_lt d k) (slice_set held d v) held ≡ slice_set held d v = ap (λ b. cond b (slice_set held d v) held) (lt-ltb d k below) in
                subst (λ xs. HoldsLast k (values ++ v ∷ []) (draws ++ d ∷ []) xs) (sym put) (record {
                  places = omega (arith, length-set held d v, length-more draws d, h.places);
                  last = λ p l.
                      let within : p < length held = omega (arith, length-set held d v) in
                      elim (cases_eq d p) [
                        | inl e ↦
                            let here : d < length held = omega arith in
                            ap (λ i. slice_get (slice_set held d v) i) (sym e) ∙ slice_get-set held d v here ∙ sym (found k d p v values draws same (item_at-here k d p draws (inr (full, e))))
                        | inr e ↦
                            slice_get-set_other held d p v e ∙ h.last p within ∙ sym (stays k d p v values draws same (item_at-other k d p draws (λ q. absurd (omega (arith, h.places))) (λ g. e)))
                      ];
                })
            | inr past ↦
                let kept : cond (nat_lt d k) (slice_set held d v) held ≡ held = ap (λ b. cond b (slice_set held d v) held) (le-ltb d k past) in
                subst (λ xs. HoldsLast k (values ++ v ∷ []) (draws ++ d ∷ []) xs) (sym kept) (record {
                  places = omega (arith, length-more draws d, h.places);
                  last = λ p l. h.last p l ∙ sym (stays k d p v values draws same (item_at-other k d p draws (λ q. absurd (omega (arith, h.places))) (λ g q. absurd (omega (arith, h.places)))));
                })
          ])
    ]

-- ---- all pushes

steps-hold : (k : ℕ) (pushes : List (ℤ × ℕ)) (values : List ℤ) (draws : List ℕ) (held : List ℤ) → length values ≡ length draws → HoldsLast k values draws held → HoldsLast k (values ++ map (λ push. push.0) pushes) (draws ++ map (λ push. push.1) pushes) (steps_from k (length draws) held pushes)
steps-hold k [] values draws held same h =
    subst (λ (p : List ℤ × List ℕ). HoldsLast k p.0 p.1 held) (ap (λ xs. (xs, draws)) (sym (append-nil values)) ∙ ap (λ ys. (values ++ [], ys)) (sym (append-nil draws))) h
steps-hold k (push ∷ pushes) values draws held same h =
    let values' : List ℤ = values ++ push.0 ∷ [] in
    let draws' : List ℕ = draws ++ push.1 ∷ [] in
    let held' : List ℤ = place_step k (length draws) push.0 push.1 held in
    let next : length draws' ≡ suc (length draws) = length-more draws push.1 in
    let same' : length values' ≡ length draws' = omega (arith, length-more values push.0, length-more draws push.1) in
    let rest : HoldsLast k (values' ++ map (λ p. p.0) pushes) (draws' ++ map (λ p. p.1) pushes) (steps_from k (length draws') held' pushes) = steps-hold k pushes values' draws' held' same' (held-more k push.1 push.0 values draws held same h) in
    subst (λ (q : List ℤ × List ℕ × ℕ). HoldsLast k q.0 q.1 (steps_from k q.2 held' pushes))
    (ap (λ xs. (xs, draws' ++ map (λ p. p.1) pushes, length draws')) (append_assoc values (push.0 ∷ []) (map (λ p. p.0) pushes))
    ∙ ap (λ ys. (values ++ push.0 ∷ map (λ p. p.0) pushes, ys, length draws')) (append_assoc draws (push.1 ∷ []) (map (λ p. p.1) pushes))
    ∙ ap (λ n. (values ++ push.0 ∷ map (λ p. p.0) pushes, draws ++ push.1 ∷ map (λ p. p.1) pushes, n)) next)
    rest

pub steps-hold-last : StepsHoldLast
steps-hold-last k pushes = steps-hold k pushes [] [] [] refl (record { places = omega arith; last = λ p l. absurd (omega arith) })
