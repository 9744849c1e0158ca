-- Handles: copies of all cells.
use Rattle.std.proofs.Common.{◌≡◌, ℕ, zero, suc, take, Bool, true, false, cond, List, [], ◌∷◌, ◌++◌, Option, None, Some, MatchOption, IsSomeAnd, refl, sym, ◌∙◌, ap, subst}
use Rattle.std.specs.Cmp.{IsEquivalence}
use Rattle.std.specs.List.{IsDistinct, AllByRecursion}
use Rattle.std.specs.Map.{lookup, keys_of}
use Rattle.std.proofs.lemmas.Bool.{cond-true, cond-false}
use Rattle.metrics_registry.specs.Held.{Copies, ArePlaced}
use Rattle.metrics_registry.proofs.HeldLemmas.{by_answer, lookup-append_none}

front : {K C : Type 0} (eq : K → K → Bool) (x : K) (xs ys : List (K × C)) → AllByRecursion (λ k. eq x k ≡ false) (keys_of (xs ++ ys)) → AllByRecursion (λ k. eq x k ≡ false) (keys_of xs)
front eq x [] ys all = tt
front eq x (e ∷ xs) ys all = (all.0, front eq x xs ys all.1)

match-old : {C : Type 0} (n m l : Option C) (o : Option C) (P : C → Type 0) → MatchOption o (n ≡ m) P → m ≡ l → MatchOption o (n ≡ l) P
match-old n m l None P e same = e ∙ same
match-old n m l (Some c) P p same = p

lookup-append_some : {K C : Type 0} (test : K → Bool) (xs ys : List (K × C)) (c : C) → lookup test xs ≡ Some c → lookup test (xs ++ ys) ≡ Some c
lookup-append_some test [] ys c found = cc found
lookup-append_some test (x ∷ xs) ys c found =
    by_answer (test x.0)
    (λ t. cond-true (test x.0) (Some x.1) (lookup test (xs ++ ys)) t ∙ (sym (cond-true (test x.0) (Some x.1) (lookup test xs) t) ∙ found))
    (λ f. cond-false (test x.0) (Some x.1) (lookup test (xs ++ ys)) f ∙ lookup-append_some test xs ys c (sym (cond-false (test x.0) (Some x.1) (lookup test xs) f) ∙ found))

module _ {K C : Type 0} {eq : K → K → Bool} (laws : IsEquivalence eq) where
  lookup-same : (es : List (K × C)) (x y : K) → eq x y ≡ true → lookup (eq x) es ≡ lookup (eq y) es
  lookup-same [] x y e = refl
  lookup-same (z ∷ es) x y e = ap (λ b. cond b (Some z.1) (lookup (eq x) es)) (laws.congr x y z.0 e) ∙ ap (λ l. cond (eq y z.0) (Some z.1) l) (lookup-same es x y e)

  apart-from : (x : K) (ys : List (K × C)) (q : K) → AllByRecursion (λ k. eq x k ≡ false) (keys_of ys) → eq q x ≡ true → lookup (eq q) ys ≡ None
  apart-from x [] q apart e = refl
  apart-from x (y ∷ ys) q apart e = cond-false (eq q y.0) (Some y.1) (lookup (eq q) ys) (laws.congr q x y.0 e ∙ apart.0) ∙ apart-from x ys q apart.1 e

  rest-of : (xs ys : List (K × C)) (x : K) → AllByRecursion (λ k. eq x k ≡ false) (keys_of (xs ++ ys)) → AllByRecursion (λ k. eq x k ≡ false) (keys_of ys)
  rest-of [] ys x all = all
  rest-of (e ∷ xs) ys x all = rest-of xs ys x all.1

  -- a key is found in one half at most
  pub one-half : (xs ys : List (K × C)) (q : K) (c : C) → IsDistinct eq (keys_of (xs ++ ys)) → lookup (eq q) xs ≡ Some c → lookup (eq q) ys ≡ None
  unfolding IsDistinct
  one-half [] ys q c distinct found = cc found
  one-half (x ∷ xs) ys q c distinct found =
      by_answer (eq q x.0)
      (λ t. apart-from x.0 ys q (rest-of xs ys x.0 distinct.0) t)
      (λ f. one-half xs ys q c distinct.1 (sym (cond-false (eq q x.0) (Some x.1) (lookup (eq q) xs) f) ∙ found))

  pub copies-append : (clone : C → C → Type 0) (xs ys : List (K × C)) (old mid new : K → Option C) → IsDistinct eq (keys_of (xs ++ ys)) → Copies eq clone xs old mid → Copies eq clone ys mid new → Copies eq clone (xs ++ ys) old new
  copies-append clone xs ys old mid new distinct first second q = by_found (lookup (eq q) xs) refl
    where
      by_found : (o : Option C) → lookup (eq q) xs ≡ o → MatchOption (lookup (eq q) (xs ++ ys)) (new q ≡ old q) (λ c. IsSomeAnd (new q) (clone c))
      by_found None e =
          let P : Option C → Type 0 = λ o. MatchOption o (new q ≡ old q) (λ c. IsSomeAnd (new q) (clone c)) in
          let Was : Option C → Type 0 = λ o. MatchOption o (mid q ≡ old q) (λ c. IsSomeAnd (mid q) (clone c)) in
          subst P (sym (lookup-append_none (eq q) xs ys e)) (match-old (new q) (mid q) (old q) (lookup (eq q) ys) (λ c. IsSomeAnd (new q) (clone c)) (second q) (subst Was e (first q)))
      by_found (Some c) e =
          let P : Option C → Type 0 = λ o. MatchOption o (new q ≡ old q) (λ c. IsSomeAnd (new q) (clone c)) in
          let Was : Option C → Type 0 = λ o. MatchOption o (mid q ≡ old q) (λ c. IsSomeAnd (mid q) (clone c)) in
          let Now : Option C → Type 0 = λ o. MatchOption o (new q ≡ mid q) (λ c. IsSomeAnd (new q) (clone c)) in
          let Is : Option C → Type 0 = λ o. IsSomeAnd o (clone c) in
          let same : new q ≡ mid q = subst Now (one-half xs ys q c distinct e) (second q) in
          subst P (sym (lookup-append_some (eq q) xs ys c e)) (subst Is (sym same) (subst Was e (first q)))

  -- one more copy
  pub copies-one : (clone : C → C → Type 0) (e : K × C) (key : K) (cell : C) (old new : K → Option C) → eq e.0 key ≡ true → clone e.1 cell → ((q : K) → new q ≡ cond (eq key q) (Some cell) (old q)) → Copies eq clone (e ∷ []) old new
  copies-one clone e key cell old new alike cloned puts q =
      let P : Option C → Type 0 = λ o. MatchOption o (new q ≡ old q) (λ c. IsSomeAnd (new q) (clone c)) in
      let Is : Option C → Type 0 = λ o. IsSomeAnd o (clone e.1) in
      let flips : eq q e.0 ≡ eq key q = laws.symm q e.0 ∙ laws.congr e.0 key q alike in
      by_answer (eq q e.0)
      (λ t. subst P (sym (cond-true (eq q e.0) (Some e.1) None t)) (subst Is (sym (puts q ∙ cond-true (eq key q) (Some cell) (old q) (sym flips ∙ t))) cloned))
      (λ f. subst P (sym (cond-false (eq q e.0) (Some e.1) None f)) (puts q ∙ cond-false (eq key q) (Some cell) (old q) (sym flips ∙ f)))

-- copies in a map that has the same
pub copies-along : {K C : Type 0} (eq : K → K → Bool) (clone : C → C → Type 0) (es : List (K × C)) (old mid new : K → Option C) → Copies eq clone es old mid → ((q : K) → new q ≡ mid q) → Copies eq clone es old new
copies-along {K} {C} eq clone es old mid new copies same q =
    let P : Option C → Type 0 = λ o. MatchOption (lookup (eq q) es) (o ≡ old q) (λ c. IsSomeAnd o (clone c)) in
    subst P (sym (same q)) (copies q)

-- the first part of distinct keys
pub distinct-front : {K C : Type 0} (eq : K → K → Bool) (xs ys : List (K × C)) → IsDistinct eq (keys_of (xs ++ ys)) → IsDistinct eq (keys_of xs)
unfolding IsDistinct
distinct-front eq [] ys distinct = tt
distinct-front eq (x ∷ xs) ys distinct = (front eq x.0 xs ys distinct.0, distinct-front eq xs ys distinct.1)

pub placed-take : {K C : Type 0} (eq : K → K → Bool) (number : K → ℕ) (count shard n : ℕ) (ms : List (List (K × C))) → ArePlaced eq number count shard ms → ArePlaced eq number count shard (take n ms)
placed-take eq number count shard zero ms placed = tt
placed-take eq number count shard (suc n) [] placed = tt
placed-take eq number count shard (suc n) (m ∷ ms) placed = (placed.0, placed.1, placed-take eq number count (suc shard) n ms placed.2)
