-- Targets that are named in order, in both forms.
use Rattle.std.proofs.Common.{◌≡◌, ℕ, suc, ◌<◌, ◌≤◌, max, List, [], ◌∷◌, ◌++◌, refl, ap, subst, arith, ◌⊎◌, inl, inr}
use Rattle.std.proofs.lemmas.Bool.{cases_lt}
use Rattle.std.proofs.Math.Nat.{lt_of_not-le}
use Rattle.tool_trees.specs.declared.tree_line.RouteWord.{RouteWord}
use Rattle.tool_trees.specs.Trees.{NameTargets, IsNamed, NameInOrder}

-- one of the first so many, or one that routes name
abbrev IsKnown : ℕ → ℕ → List RouteWord → Type 0
IsKnown named k routes = (k < named) ⊎ IsNamed k routes

known_none : (named k : ℕ) → IsKnown named k [] → k < named
known_none named k (inl lt) = lt
known_none named k (inr i) = absurd i

after_one : (named k : ℕ) (q : RouteWord) (routes : List RouteWord) → IsKnown named k (q ∷ routes) → IsKnown (max named (suc q.target)) k routes
after_one named k q routes (inl lt) = inl (omega (arith, lt))
after_one named k q routes (inr (inl is)) = inl (omega (arith, is))
after_one named k q routes (inr (inr i)) = inr i

with_one : (named k : ℕ) (q : RouteWord) (routes : List RouteWord) → q.target ≤ named → IsKnown (max named (suc q.target)) k routes → IsKnown named k (q ∷ routes)
with_one named k q routes low (inr i) = inr (inr i)
with_one named k q routes low (inl lt) = by (cases_lt k named)
  where
    by : (k < named) ⊎ (named ≤ k) → IsKnown named k (q ∷ routes)
    by (inl less) = inl less
    by (inr ge) = inr (inl (omega (arith, low, lt, ge)))

all : (n named k : ℕ) (routes : List RouteWord) → NameTargets n named routes → k < n → IsKnown named k routes
all n named k [] h lt = inl (omega (arith, h, lt))
all n named k (q ∷ routes) (low, h) lt = with_one named k q routes low (all n (max named (suc q.target)) k routes h lt)

only : (n named k : ℕ) (routes : List RouteWord) → NameTargets n named routes → IsKnown named k routes → k < n
only n named k [] h i = omega (arith, h, known_none named k i)
only n named k (q ∷ routes) (low, h) i = only n (max named (suc q.target)) k routes h (after_one named k q routes i)

in_order : (n named k : ℕ) (r : RouteWord) (routes before after : List RouteWord) → NameTargets n named routes → routes ≡ before ++ r ∷ after → k < r.target → IsKnown named k before
in_order n named k r [] [] after h e lt = absurd (cc)
in_order n named k r [] (b ∷ before) after h e lt = absurd (cc)
in_order n named k r (q ∷ routes) [] after (low, h) e lt = let head : q ≡ r = cc in inl (omega (arith, lt, low, ap (λ (x : RouteWord). x.target) head))
in_order n named k r (q ∷ routes) (b ∷ before) after (low, h) e lt =
    let head : q ≡ b = cc in
    let tail : routes ≡ before ++ r ∷ after = cc in
    subst (λ (x : RouteWord). IsKnown named k (x ∷ before)) head (with_one named k q before low (in_order n (max named (suc q.target)) k r routes before after h tail lt))

named_by : (n named : ℕ) (routes : List RouteWord) → ((k : ℕ) → k < n → IsKnown named k routes) → ((k : ℕ) → IsKnown named k routes → k < n)
    → ((before after : List RouteWord) (r : RouteWord) (k : ℕ) → routes ≡ before ++ r ∷ after → k < r.target → IsKnown named k before) → NameTargets n named routes
named_by n named [] each below order =
    let high : n < suc named = lt_of_not-le (λ le. omega (arith, known_none named named (each named (omega (arith, le))))) in
    let low : named < suc n = lt_of_not-le (λ le. omega (arith, below n (inl (omega (arith, le))))) in
    omega (arith, high, low)
named_by n named (q ∷ routes) each below order =
    let near : q.target < suc named = lt_of_not-le (λ le. omega (arith, known_none named named (order [] routes q named refl (omega (arith, le))))) in
    let low : q.target ≤ named = omega (arith, near) in
    let shorter = λ (before after : List RouteWord) (r : RouteWord) (k : ℕ) (e : routes ≡ before ++ r ∷ after) (lt : k < r.target). after_one named k q before (order (q ∷ before) after r k (ap (λ rs. q ∷ rs) e) lt) in
    (low, named_by n (max named (suc q.target)) routes (λ k lt. after_one named k q routes (each k lt)) (λ k i. below k (with_one named k q routes low i)) shorter)

named_of : (k : ℕ) (routes : List RouteWord) → IsKnown 0 k routes → IsNamed k routes
named_of k routes (inl low) = absurd (omega (arith, low))
named_of k routes (inr i) = i

pub in_words : (n : ℕ) (routes : List RouteWord) → NameTargets n 0 routes → NameInOrder n routes
in_words n routes h = record {
  all = λ k lt. named_of k routes (all n 0 k routes h lt);
  only = λ k i. only n 0 k routes h (inr i);
  in_order = λ before after r k e lt. named_of k before (in_order n 0 k r routes before after h e lt);
}

pub from_words : (n : ℕ) (routes : List RouteWord) → NameInOrder n routes → NameTargets n 0 routes
from_words n routes o = named_by n 0 routes (λ k lt. inr (o.all k lt)) (λ k i. o.only k (named_of k routes i)) (λ before after r k e lt. inr (o.in_order before after r k e lt))
