-- What holds of each element of a list, and of each pair, by recursion.
use Rattle.std.proofs.Common.{◌≡◌, ◌<◌, ◌⊎◌, inl, inr, ℕ, zero, suc, List, [], ◌∷◌, ◌++◌, length, get_or, Contains, refl, subst, arith}
use Rattle.std.specs.List.{AllByRecursion, AllPairs, flat_map}

pub each-map : {A : Type 0} (P Q : A → Type 0) → ((x : A) → P x → Q x) → (xs : List A) → AllByRecursion P xs → AllByRecursion Q xs
each-map P Q f [] h = h
each-map P Q f (x ∷ xs) h = (f x h.0, each-map P Q f xs h.1)

pub each-both : {A : Type 0} (P Q : A → Type 0) → (xs : List A) → AllByRecursion P xs → AllByRecursion Q xs → AllByRecursion (λ x. P x × Q x) xs
each-both P Q [] h g = h
each-both P Q (x ∷ xs) h g = ((h.0, g.0), each-both P Q xs h.1 g.1)

pub each-all : {A : Type 0} (P : A → Type 0) → ((x : A) → P x) → (xs : List A) → AllByRecursion P xs
each-all P f [] = tt
each-all P f (x ∷ xs) = (f x, each-all P f xs)

pub each-append : {A : Type 0} (P : A → Type 0) (xs ys : List A) → AllByRecursion P xs → AllByRecursion P ys → AllByRecursion P (xs ++ ys)
each-append P [] ys h g = g
each-append P (x ∷ xs) ys h g = (h.0, each-append P xs ys h.1 g)

pub each-at : {A : Type 0} (P : A → Type 0) (xs : List A) (j : ℕ) (d : A) → AllByRecursion P xs → j < length xs → P (get_or xs j d)
each-at P [] j d h small = absurd (omega (arith, small))
each-at P (x ∷ xs) zero d h small = h.0
each-at P (x ∷ xs) (suc j) d h small = each-at P xs j d h.1 (omega (arith, small))

pub each-places : {A : Type 0} (P : A → Type 0) (xs : List A) → ((j : ℕ) (d : A) → j < length xs → P (get_or xs j d)) → AllByRecursion P xs
each-places P [] f = tt
each-places P (x ∷ xs) f = (f zero x (omega arith), each-places P xs (λ j d small. f (suc j) d (omega (arith, small))))

pub each-swap : {A B : Type 0} (Q : A → B → Type 0) (xs : List A) (ys : List B) → AllByRecursion (λ y. AllByRecursion (λ x. Q x y) xs) ys → AllByRecursion (λ x. AllByRecursion (Q x) ys) xs
each-swap Q [] ys h = tt
each-swap Q (x ∷ xs) ys h =
    (each-map (λ y. AllByRecursion (λ z. Q z y) (x ∷ xs)) (Q x) (λ y p. p.0) ys h, each-swap Q xs ys (each-map (λ y. AllByRecursion (λ z. Q z y) (x ∷ xs)) (λ y. AllByRecursion (λ z. Q z y) xs) (λ y p. p.1) ys h))

pub each-flat : {A B : Type 0} (f : A → List B) (P : B → Type 0) (xs : List A) → AllByRecursion (λ x. AllByRecursion P (f x)) xs → AllByRecursion P (flat_map f xs)
each-flat f P [] h = tt
each-flat f P (x ∷ xs) h = each-append P (f x) (flat_map f xs) h.0 (each-flat f P xs h.1)

-- a relation holds between each element and each later one
abbrev pub Pairs : {A : Type 0} → (A → A → Type 0) → List A → Type 0
Pairs R [] = Unit {0}
Pairs R (x ∷ xs) = AllByRecursion (R x) xs × Pairs R xs

pub pairs-map : {A : Type 0} (R S : A → A → Type 0) → ((x y : A) → R x y → S x y) → (xs : List A) → Pairs R xs → Pairs S xs
pairs-map R S f [] p = p
pairs-map R S f (x ∷ xs) p = (each-map (R x) (S x) (f x) xs p.0, pairs-map R S f xs p.1)

-- the same, if something is known of each element
pub pairs-with : {A : Type 0} (P : A → Type 0) (R S : A → A → Type 0) → ((x y : A) → P x → P y → R x y → S x y) → (xs : List A) → AllByRecursion P xs → Pairs R xs → Pairs S xs
pairs-with P R S f [] h p = p
pairs-with P R S f (x ∷ xs) h p =
    (each-map (λ y. P y × R x y) (S x) (λ y k. f x y h.0 k.0 k.1) xs (each-both P (R x) xs h.1 p.0), pairs-with P R S f xs h.1 p.1)

pub pairs-both : {A : Type 0} (R S : A → A → Type 0) → (xs : List A) → Pairs R xs → Pairs S xs → Pairs (λ x y. R x y × S x y) xs
pairs-both R S [] p q = tt
pairs-both R S (x ∷ xs) p q = (each-both (R x) (S x) xs p.0 q.0, pairs-both R S xs p.1 q.1)

pub pairs-append : {A : Type 0} (R : A → A → Type 0) (xs ys : List A) → Pairs R xs → Pairs R ys → AllByRecursion (λ x. AllByRecursion (R x) ys) xs → Pairs R (xs ++ ys)
pairs-append R [] ys p q h = q
pairs-append R (x ∷ xs) ys p q h = (each-append (R x) xs ys p.0 h.0, pairs-append R xs ys p.1 q h.1)

-- joined lists: pairs of one list, and pairs from two
pub pairs-flat : {A B : Type 0} (f : A → List B) (R : B → B → Type 0) (xs : List A) → AllByRecursion (λ x. Pairs R (f x)) xs → Pairs (λ x y. AllByRecursion (λ b. AllByRecursion (R b) (f y)) (f x)) xs
    → Pairs R (flat_map f xs)
pairs-flat f R [] own apart = tt
pairs-flat f R (x ∷ xs) own apart =
    pairs-append R (f x) (flat_map f xs) own.0 (pairs-flat f R xs own.1 apart.1)
    (each-map (λ b. AllByRecursion (λ y. AllByRecursion (R b) (f y)) xs) (λ b. AllByRecursion (R b) (flat_map f xs)) (λ b. each-flat f (R b) xs) (f x)
    (each-swap (λ b y. AllByRecursion (R b) (f y)) (f x) xs apart.0))

pub pairs-places : {A : Type 0} (R : A → A → Type 0) (xs : List A) → Pairs R xs → AllPairs R xs
pairs-places R [] p i j d below small = absurd (omega (arith, small))
pairs-places R (x ∷ xs) p zero zero d below small = absurd (omega (arith, below))
pairs-places R (x ∷ xs) p zero (suc j) d below small = each-at (R x) xs j d p.0 (omega (arith, small))
pairs-places R (x ∷ xs) p (suc i) zero d below small = absurd (omega (arith, below))
pairs-places R (x ∷ xs) p (suc i) (suc j) d below small = pairs-places R xs p.1 i j d (omega (arith, below)) (omega (arith, small))

pub pairs-from-places : {A : Type 0} (R : A → A → Type 0) (xs : List A) → AllPairs R xs → Pairs R xs
pairs-from-places R [] f = tt
pairs-from-places R (x ∷ xs) f =
    (each-places (R x) xs (λ j d small. f zero (suc j) d (omega arith) (omega (arith, small))), pairs-from-places R xs (λ i j d below small. f (suc i) (suc j) d (omega (arith, below)) (omega (arith, small))))

-- ---- elements of a list

pub in-first : {A : Type 0} (x : A) (xs : List A) → Contains (x ∷ xs) x
in-first x xs = (zero, omega arith, refl)

pub in-later : {A : Type 0} (x : A) (xs : List A) (r : A) → Contains xs r → Contains (x ∷ xs) r
in-later x xs r (k, small, is) = (suc k, omega (arith, small), is)

pub in-split : {A : Type 0} (x : A) (xs : List A) (r : A) → Contains (x ∷ xs) r → (x ≡ r) ⊎ Contains xs r
in-split x xs r (zero, small, is) = inl is
in-split x xs r (suc k, small, is) = inr (k, omega (arith, small), is)

pub in-append : {A : Type 0} (xs ys : List A) (r : A) → Contains (xs ++ ys) r → Contains xs r ⊎ Contains ys r
in-append [] ys r has = inr has
in-append (x ∷ xs) ys r has = elim (in-split x (xs ++ ys) r has) [
  | inl e ↦ inl (subst (Contains (x ∷ xs)) e (in-first x xs))
  | inr its ↦ elim (in-append xs ys r its) [
    | inl there ↦ inl (in-later x xs r there)
    | inr there ↦ inr there
  ]
]

pub in-none : {A : Type 0} (r : A) → Contains [] r → ⊥
in-none r (k, small, is) = absurd (omega (arith, small))

pub each-in : {A : Type 0} (P : A → Type 0) (xs : List A) (x : A) → AllByRecursion P xs → Contains xs x → P x
each-in P xs x h (k, small, is) = subst P is (each-at P xs k x h small)
