-- Sums over views, weights of lists, and places.
use Rattle.std.proofs.Common.{◌≡◌, ◌≢◌, ◌⊎◌, ℕ, zero, suc, ◌+◌, ◌<◌, ◌≤◌, List, [], ◌∷◌, ◌++◌, length, get_or, set, replicate, refl, sym, ap, inl, inr, arith, eq-eqb, ne_eqb}
use mathlib.Core.Logic.{dite}
use mathlib.Core.Option.{some, some-injective, some-ne-none}
use native.Mathlib.Decide.{ℕ_discrete}
use lib.ListN.{get_elem?}
use Rattle.metrics_bucket.specs.declared.view.Push.{Push}
use Rattle.metrics_bucket.specs.declared.view.View.{View}
use Rattle.metrics_bucket.specs.declared.view.Visit.TheVariants.{Unseen}
use Rattle.metrics_bucket.specs.BucketState.{total, place_index}
use Rattle.metrics_bucket.specs.Facts.{weigh, weigh_pushes, stands, same, below, given_at, open_at}

pub total_set : (f : View → ℕ) (vs : List View) (j : ℕ) (v w : View) → get_elem? vs j ≡ some v → total f (set vs j w) + f v ≡ total f vs + f w
total_set f [] j v w e = absurd (some-ne-none v (sym e))
total_set f (x ∷ xs) zero v w e = let is : f x ≡ f v = ap f (some-injective x v e) in omega arith
total_set f (x ∷ xs) (suc j) v w e = let r = total_set f xs j v w e in omega arith

pub total_one : (f : View → ℕ) (vs : List View) (j : ℕ) (v : View) → get_elem? vs j ≡ some v → f v ≤ total f vs
total_one f [] j v e = absurd (some-ne-none v (sym e))
total_one f (x ∷ xs) zero v e = let is : f x ≡ f v = ap f (some-injective x v e) in omega arith
total_one f (x ∷ xs) (suc j) v e = let r = total_one f xs j v e in omega arith

-- two threads' parts of a sum
pub total_two : (f : View → ℕ) (vs : List View) (i j : ℕ) (u v : View) → i ≢ j → get_elem? vs i ≡ some u → get_elem? vs j ≡ some v → f u + f v ≤ total f vs
total_two f [] i j u v n d e = absurd (some-ne-none v (sym e))
total_two f (x ∷ xs) zero zero u v n d e = absurd (n refl)
total_two f (x ∷ xs) zero (suc j) u v n d e = let is : f x ≡ f u = ap f (some-injective x u d) in let r = total_one f xs j v e in omega arith
total_two f (x ∷ xs) (suc i) zero u v n d e = let is : f x ≡ f v = ap f (some-injective x v e) in let r = total_one f xs i u d in omega arith
total_two f (x ∷ xs) (suc i) (suc j) u v n d e = let r = total_two f xs i j u v (λ s. n (ap suc s)) d e in omega arith

pub total_zero : (f : View → ℕ) (vs : List View) → ((j : ℕ) (v : View) → get_elem? vs j ≡ some v → f v ≡ 0) → total f vs ≡ 0
total_zero f [] z = refl
total_zero f (x ∷ xs) z = let a = z 0 x refl in let r = total_zero f xs (λ j v e. z (suc j) v e) in omega arith

pub total_le : (f g : View → ℕ) (vs : List View) → ((v : View) → f v ≤ g v) → total f vs ≤ total g vs
total_le f g [] l = omega arith
total_le f g (x ∷ xs) l = let a = l x in let r = total_le f g xs l in omega arith

pub total_snoc : (f : View → ℕ) (vs : List View) (v : View) → total f (vs ++ v ∷ []) ≡ total f vs + f v
total_snoc f [] v = omega arith
total_snoc f (x ∷ xs) v = let r = total_snoc f xs v in omega arith

pub weigh-append : (h : ℕ → ℕ) (xs ys : List ℕ) → weigh h (xs ++ ys) ≡ weigh h xs + weigh h ys
weigh-append h [] ys = omega arith
weigh-append h (x ∷ xs) ys = let r = weigh-append h xs ys in omega arith

pub weigh_pushes-append : (h : ℕ → ℕ) (xs ys : List Push) → weigh_pushes h (xs ++ ys) ≡ weigh_pushes h xs + weigh_pushes h ys
weigh_pushes-append h [] ys = omega arith
weigh_pushes-append h (x ∷ xs) ys = let r = weigh_pushes-append h xs ys in omega arith

-- a value that is written where no mark is
pub stands_value : (h : ℕ → ℕ) (xs ms : List ℕ) (k x : ℕ) → get_or ms k 0 ≡ 0 → stands h (set xs k x) ms ≡ stands h xs ms
stands_value h [] ms k x e = refl
stands_value h (y ∷ ys) [] zero x e = refl
stands_value h (y ∷ ys) [] (suc k) x e = refl
stands_value h (y ∷ ys) (zero ∷ ms) zero x e = refl
stands_value h (y ∷ ys) (suc m ∷ ms) zero x e = absurd (omega arith)
stands_value h (y ∷ ys) (zero ∷ ms) (suc k) x e = stands_value h ys ms k x e
stands_value h (y ∷ ys) (suc m ∷ ms) (suc k) x e = ap (λ n. h y + n) (stands_value h ys ms k x e)

pub stands_mark : (h : ℕ → ℕ) (xs ms : List ℕ) (k : ℕ) → k < length xs → k < length ms → get_or ms k 0 ≡ 0 → stands h xs (set ms k 1) ≡ stands h xs ms + h (get_or xs k 0)
stands_mark h [] ms k l m e = absurd (omega arith)
stands_mark h (y ∷ ys) [] k l m e = absurd (omega arith)
stands_mark h (y ∷ ys) (zero ∷ ms) zero l m e = omega arith
stands_mark h (y ∷ ys) (suc n ∷ ms) zero l m e = absurd (omega arith)
stands_mark h (y ∷ ys) (zero ∷ ms) (suc k) l m e = stands_mark h ys ms k (omega arith) (omega arith) e
stands_mark h (y ∷ ys) (suc n ∷ ms) (suc k) l m e = let r = stands_mark h ys ms k (omega arith) (omega arith) e in omega arith

pub stands_unmark : (h : ℕ → ℕ) (xs ms : List ℕ) (k : ℕ) → k < length xs → k < length ms → get_or ms k 0 ≡ 1 → stands h xs (set ms k 0) + h (get_or xs k 0) ≡ stands h xs ms
stands_unmark h [] ms k l m e = absurd (omega arith)
stands_unmark h (y ∷ ys) [] k l m e = absurd (omega arith)
stands_unmark h (y ∷ ys) (zero ∷ ms) zero l m e = absurd (omega arith)
stands_unmark h (y ∷ ys) (suc n ∷ ms) zero l m e = omega arith
stands_unmark h (y ∷ ys) (zero ∷ ms) (suc k) l m e = stands_unmark h ys ms k (omega arith) (omega arith) e
stands_unmark h (y ∷ ys) (suc n ∷ ms) (suc k) l m e = let r = stands_unmark h ys ms k (omega arith) (omega arith) e in omega arith

-- two different places are apart in the lists
pub index_apart : (places s i s' i' : ℕ) → s < 2 → s' < 2 → i < places → i' < places → (s ≡ s' → i ≡ i' → ⊥) → place_index places s i ≢ place_index places s' i'
index_apart p zero i zero i' a b c d n e = n refl (omega arith)
index_apart p zero i (suc s') i' a b c d n e = omega arith
index_apart p (suc s) i zero i' a b c d n e = omega arith
index_apart p (suc s) i (suc s') i' a b c d n e = n (omega arith) (omega arith)

pub index_below : (places s i : ℕ) → i < places → place_index places s i < places + places
index_below p zero i l = omega arith
index_below p (suc s) i l = omega arith

pub here_or : (s i s' i' : ℕ) → ((s ≡ s') × (i ≡ i')) ⊎ (s ≡ s' → i ≡ i' → ⊥)
here_or s i s' i' = dite (ℕ_discrete s s') (λ p. dite (ℕ_discrete i i') (λ q. inl (p, q)) (λ n. inr (λ a b. n b))) (λ n. inr (λ a b. n a))

pub same_here : (s i s' i' : ℕ) → s ≡ s' → i ≡ i' → same s i s' i' ≡ 1
same_here s i s' i' p q = rw (eq-eqb s s' p) (rw (eq-eqb i i' q) refl)

pub same_else : (s i s' i' : ℕ) → (s ≡ s' → i ≡ i' → ⊥) → same s i s' i' ≡ 0
same_else s i s' i' n = dite (ℕ_discrete s s') (λ p. rw (eq-eqb s s' p) (rw (ne_eqb i i' (λ q. n p q)) refl)) (λ p. rw (ne_eqb s s' p) refl)

pub below_under : (i n : ℕ) → i < n → below i n ≡ 1
below_under i zero l = absurd (omega arith)
below_under zero (suc n) l = refl
below_under (suc i) (suc n) l = below_under i n (omega arith)

pub below_over : (i n : ℕ) → n ≤ i → below i n ≡ 0
below_over i zero l = refl
below_over zero (suc n) l = absurd (omega arith)
below_over (suc i) (suc n) l = below_over i n (omega arith)

pub below_le : (i n : ℕ) → below i n ≤ 1
below_le i zero = omega arith
below_le zero (suc n) = omega arith
below_le (suc i) (suc n) = below_le i n

pub given_le : (live n s i : ℕ) → given_at live n s i ≤ 1
given_le live n s i = dite (ℕ_discrete s live) (λ p. rw (eq-eqb s live p) (below_le i n)) (λ p. rw (ne_eqb s live p) (omega arith))

pub given_else : (live n s i : ℕ) → s ≢ live → given_at live n s i ≡ 0
given_else live n s i p = rw (ne_eqb s live p) refl

pub given_here : (live n s i : ℕ) → s ≡ live → given_at live n s i ≡ below i n
given_here live n s i p = rw (eq-eqb s live p) refl

-- one more ticket
pub given_next : (live n s i : ℕ) → given_at live (n + 1) s i ≡ given_at live n s i + same s i live n
given_next live n s i = dite (ℕ_discrete s live)
    (λ p. let a = given_here live n s i p in let b = given_here live (n + 1) s i p in dite (ℕ_discrete i n)
    (λ q. let c = same_here s i live n p q in let d = below_under i (n + 1) (omega arith) in let e = below_over i n (omega arith) in omega arith)
    (λ q. let c = same_else s i live n (λ _ z. q z) in dite (native.Mathlib.Decide.dec_le i n)
    (λ l. let d = below_under i (n + 1) (omega arith) in let e = below_under i n (omega arith) in omega arith)
    (λ l. let d = below_over i (n + 1) (omega arith) in let e = below_over i n (omega arith) in omega arith)))
    (λ p. let a = given_else live n s i p in let b = given_else live (n + 1) s i p in let c = same_else s i live n (λ z _. p z) in omega arith)

pub open_new : (n i : ℕ) → open_at (replicate n Unseen) i ≡ below i n
open_new zero i = refl
open_new (suc n) zero = refl
open_new (suc n) (suc i) = open_new n i
