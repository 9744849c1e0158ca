-- Laws of lists of targets and of what acts on them.
use Rattle.std.proofs.Common.{if◌then◌else◌, ◌≡◌, ℕ, zero, suc, ◌+◌, ◌<◌, ◌≤◌, List, [], ◌∷◌, ◌++◌, length, take, nat_eq, true, false, refl, ap, sym, ◌∙◌, subst, arith, length-append, zero-add}
use Rattle.std.proofs.lemmas.Bool.{eqb-true}
use Rattle.std.proofs.lemmas.Bool.Decides.{nat_tests}
use Rattle.metrics.specs.Targets.{raise, after_targets, change_at, AllBelow, AreDistinct, IsNot}

pub zero_below_one : 0 < 1
zero_below_one = omega arith

pub below_more : {X : Type 0} (a k : ℕ) (ts : List (ℕ × X)) → AllBelow a ts → AllBelow (a + k) ts
below_more a k [] h = tt
below_more a k (t ∷ ts) h = (omega (arith, h.0), below_more a k ts h.1)

pub below_raise : {X : Type 0} (a k : ℕ) (ts : List (ℕ × X)) → AllBelow k ts → AllBelow (a + k) (raise a ts)
below_raise a k [] h = tt
below_raise a k (t ∷ ts) h = (omega (arith, h.0), below_raise a k ts h.1)

below_append : {X : Type 0} (k : ℕ) (ts us : List (ℕ × X)) → AllBelow k ts → AllBelow k us → AllBelow k (ts ++ us)
below_append k [] us h g = g
below_append k (t ∷ ts) us h g = (h.0, below_append k ts us h.1 g)

pub below_joined : {X C : Type 0} (cs ds : List C) (ts us : List (ℕ × X)) → AllBelow (length cs) ts → AllBelow (length ds) us → AllBelow (length (cs ++ ds)) (ts ++ raise (length cs) us)
below_joined cs ds ts us h g = rw (length-append cs ds) (below_append _ ts (raise (length cs) us) (below_more _ _ ts h) (below_raise _ _ us g))

pub below_take : {X : Type 0} (k n : ℕ) (ts : List (ℕ × X)) → AllBelow k ts → AllBelow k (take n ts)
below_take k zero ts h = tt
below_take k (suc n) [] h = tt
below_take k (suc n) (t ∷ ts) h = (h.0, below_take k n ts h.1)

is_not_append : {X : Type 0} (b : ℕ) (ts us : List (ℕ × X)) → IsNot b ts → IsNot b us → IsNot b (ts ++ us)
is_not_append b [] us h g = g
is_not_append b (t ∷ ts) us h g = (h.0, is_not_append b ts us h.1 g)

is_not_raise : {X : Type 0} (b k : ℕ) (us : List (ℕ × X)) → b < k → IsNot b (raise k us)
is_not_raise b k [] h = tt
is_not_raise b k (u ∷ us) h = ((λ e. absurd (omega (arith, e))), is_not_raise b k us h)

is_not_raised : {X : Type 0} (b k : ℕ) (us : List (ℕ × X)) → IsNot b us → IsNot (k + b) (raise k us)
is_not_raised b k [] h = tt
is_not_raised b k (u ∷ us) h = ((λ e. h.0 (omega (arith, e))), is_not_raised b k us h.1)

pub distinct_raise : {X : Type 0} (k : ℕ) (us : List (ℕ × X)) → AreDistinct us → AreDistinct (raise k us)
distinct_raise k [] h = tt
distinct_raise k (u ∷ us) h = (is_not_raised u.0 k us h.0, distinct_raise k us h.1)

pub distinct_joined : {X : Type 0} (k : ℕ) (ts us : List (ℕ × X)) → AllBelow k ts → AreDistinct ts → AreDistinct us → AreDistinct (ts ++ raise k us)
distinct_joined k [] us b d e = distinct_raise k us e
distinct_joined k (t ∷ ts) us b d e = (is_not_append t.0 ts (raise k us) d.0 (is_not_raise t.0 k us b.0), distinct_joined k ts us b.1 d.1 e)

pub length-change_at : {C : Type 0} (b : ℕ) (f : C → C) (cs : List C) → length (change_at b f cs) ≡ length cs
length-change_at b f [] = refl
length-change_at zero f (c ∷ cs) = refl
length-change_at (suc b) f (c ∷ cs) = ap suc (length-change_at b f cs)

pub length-after_targets : {X C : Type 0} (f : X → C → C) (ts : List (ℕ × X)) (cs : List C) → length (after_targets f ts cs) ≡ length cs
length-after_targets f [] cs = refl
length-after_targets f (t ∷ ts) cs = length-after_targets f ts (change_at t.0 (f t.1) cs) ∙ length-change_at t.0 (f t.1) cs

pub after_targets-append : {X C : Type 0} (f : X → C → C) (ts us : List (ℕ × X)) (cs : List C) → after_targets f (ts ++ us) cs ≡ after_targets f us (after_targets f ts cs)
after_targets-append f [] us cs = refl
after_targets-append f (t ∷ ts) us cs = after_targets-append f ts us (change_at t.0 (f t.1) cs)

pub change_at-front : {C : Type 0} (b : ℕ) (f : C → C) (cs ds : List C) → b < length cs → change_at b f (cs ++ ds) ≡ change_at b f cs ++ ds
change_at-front b f [] ds h = absurd (omega arith)
change_at-front zero f (c ∷ cs) ds h = refl
change_at-front (suc b) f (c ∷ cs) ds h = ap (λ xs. c ∷ xs) (change_at-front b f cs ds (omega arith))

pub change_at-past : {C : Type 0} (b : ℕ) (f : C → C) (cs ds : List C) → change_at (length cs + b) f (cs ++ ds) ≡ cs ++ change_at b f ds
change_at-past b f [] ds = ap (λ k. change_at k f ds) (zero-add b)
change_at-past b f (c ∷ cs) ds =
    let e : length (c ∷ cs) + b ≡ suc (length cs + b) = omega arith in
    ap (λ k. change_at k f (c ∷ (cs ++ ds))) e ∙ ap (λ xs. c ∷ xs) (change_at-past b f cs ds)

-- targets with numbers below that of the first books leave the rest
pub after_targets-front : {X C : Type 0} (f : X → C → C) (ts : List (ℕ × X)) (cs ds : List C) → AllBelow (length cs) ts → after_targets f ts (cs ++ ds) ≡ after_targets f ts cs ++ ds
after_targets-front f [] cs ds h = refl
after_targets-front f (t ∷ ts) cs ds h =
    ap (after_targets f ts) (change_at-front t.0 (f t.1) cs ds h.0)
    ∙ after_targets-front f ts (change_at t.0 (f t.1) cs) ds (subst (λ k. AllBelow k ts) (sym (length-change_at t.0 (f t.1) cs)) h.1)

-- raised targets leave the first books
pub after_targets-past : {X C : Type 0} (f : X → C → C) (ts : List (ℕ × X)) (cs ds : List C) → after_targets f (raise (length cs) ts) (cs ++ ds) ≡ cs ++ after_targets f ts ds
after_targets-past f [] cs ds = refl
after_targets-past f (t ∷ ts) cs ds = ap (after_targets f (raise (length cs) ts)) (change_at-past t.0 (f t.1) cs ds) ∙ after_targets-past f ts cs (change_at t.0 (f t.1) ds)

pub length-raise : {X : Type 0} (k : ℕ) (ts : List (ℕ × X)) → length (raise k ts) ≡ length ts
length-raise k [] = refl
length-raise k (t ∷ ts) = ap suc (length-raise k ts)

pub take-raise : {X : Type 0} (k n : ℕ) (ts : List (ℕ × X)) → take n (raise k ts) ≡ raise k (take n ts)
take-raise k zero ts = refl
take-raise k (suc n) [] = refl
take-raise k (suc n) (t ∷ ts) = ap (λ xs. (k + t.0, t.1) ∷ xs) (take-raise k n ts)

pub raise-append : {X : Type 0} (k : ℕ) (ts us : List (ℕ × X)) → raise k (ts ++ us) ≡ raise k ts ++ raise k us
raise-append k [] us = refl
raise-append k (t ∷ ts) us = ap (λ xs. (k + t.0, t.1) ∷ xs) (raise-append k ts us)

pub raise-raise : {X : Type 0} (j k : ℕ) (ts : List (ℕ × X)) → raise j (raise k ts) ≡ raise (j + k) ts
raise-raise j k [] = refl
raise-raise j k (t ∷ ts) =
    let e : j + (k + t.0) ≡ j + k + t.0 = omega arith in
    ap (λ n. (n, t.1) ∷ raise j (raise k ts)) e ∙ ap (λ xs. (j + k + t.0, t.1) ∷ xs) (raise-raise j k ts)

pub raise-zero : {X : Type 0} (ts : List (ℕ × X)) → raise 0 ts ≡ ts
raise-zero [] = refl
raise-zero (t ∷ ts) =
    let e : 0 + t.0 ≡ t.0 = zero-add t.0 in
    ap (λ n. (n, t.1) ∷ raise 0 ts) e ∙ ap (λ xs. t ∷ xs) (raise-zero ts)

-- ---- there are no more targets than books

-- the targets of other books than k
abbrev without : {X : Type 0} → ℕ → List (ℕ × X) → List (ℕ × X)
without k [] = []
without k (t ∷ ts) = if nat_eq t.0 k then without k ts else t ∷ without k ts

without-not : {X : Type 0} (k : ℕ) (ts : List (ℕ × X)) → IsNot k ts → without k ts ≡ ts
without-not k [] h = refl
without-not k (t ∷ ts) h =
    elim (nat_eq t.0 k) as (λ q. nat_eq t.0 k ≡ q → (if q then without k ts else t ∷ without k ts) ≡ t ∷ ts) [
      | true ↦ λ e. absurd (h.0 (eqb-true t.0 k e))
      | false ↦ λ e. ap (λ us. t ∷ us) (without-not k ts h.1)
    ] refl

below-without : {X : Type 0} (k : ℕ) (ts : List (ℕ × X)) → AllBelow (suc k) ts → AllBelow k (without k ts)
below-without k [] h = tt
below-without k (t ∷ ts) h =
    elim (nat_eq t.0 k) as (λ q. nat_eq t.0 k ≡ q → AllBelow k (if q then without k ts else t ∷ without k ts)) [
      | true ↦ λ e. below-without k ts h.1
      | false ↦ λ e. (less t.0 k e h.0, below-without k ts h.1)
    ] refl
  where
    less : (a b : ℕ) → nat_eq a b ≡ false → a < suc b → a < b
    less a b e l = grind (arith, nat_tests)

is_not-without : {X : Type 0} (b k : ℕ) (ts : List (ℕ × X)) → IsNot b ts → IsNot b (without k ts)
is_not-without b k [] h = tt
is_not-without b k (t ∷ ts) h =
    elim (nat_eq t.0 k) as (λ q. IsNot b (if q then without k ts else t ∷ without k ts)) [
      | true ↦ is_not-without b k ts h.1
      | false ↦ (h.0, is_not-without b k ts h.1)
    ]

distinct-without : {X : Type 0} (k : ℕ) (ts : List (ℕ × X)) → AreDistinct ts → AreDistinct (without k ts)
distinct-without k [] h = tt
distinct-without k (t ∷ ts) h =
    elim (nat_eq t.0 k) as (λ q. AreDistinct (if q then without k ts else t ∷ without k ts)) [
      | true ↦ distinct-without k ts h.1
      | false ↦ (is_not-without t.0 k ts h.0, distinct-without k ts h.1)
    ]

length-without : {X : Type 0} (k : ℕ) (ts : List (ℕ × X)) → AreDistinct ts → length ts ≤ suc (length (without k ts))
length-without k [] h = omega arith
length-without k (t ∷ ts) h =
    elim (nat_eq t.0 k) as (λ q. nat_eq t.0 k ≡ q → length (t ∷ ts) ≤ suc (length (if q then without k ts else t ∷ without k ts))) [
      | true ↦ λ e.
          let same : without k ts ≡ ts = without-not k ts (subst (λ b. IsNot b ts) (eqb-true t.0 k e) h.0) in
          omega (arith, ap length same)
      | false ↦ λ e. omega (arith, length-without k ts h.1)
    ] refl

pub few : {X : Type 0} (k : ℕ) (ts : List (ℕ × X)) → AllBelow k ts → AreDistinct ts → length ts ≤ k
few k [] b d = omega arith
few zero (t ∷ ts) b d = absurd (omega (arith, b.0))
few (suc k) (t ∷ ts) b d =
    omega (arith, length-without k (t ∷ ts) d, few k (without k (t ∷ ts)) (below-without k (t ∷ ts) b) (distinct-without k (t ∷ ts) d))
