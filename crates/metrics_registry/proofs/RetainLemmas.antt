-- Entries that are kept move to the beginning, in their order.
use Rattle.std.proofs.Common.{◌≡◌, ℕ, ◌+◌, ◌<◌, ◌≤◌, Bool, true, false, cond, List, [], ◌∷◌, ◌++◌, Some, refl, sym, ◌∙◌, ap, subst, length, get_or, set, take, swap, slice_get, arith}
use Rattle.std.proofs.lemmas.List.{take_more, take-set-le, get_or-set_same, get_or-set_other, get_or_default, length-set}
use Rattle.std.proofs.lemmas.Option.{get_or_from_slice_get, slice_get_cases}
use Rattle.std.specs.Cmp.{IsEquivalence}
use Rattle.std.specs.List.{IsDistinct}
use Rattle.std.specs.Map.{keys_of}
use Rattle.metrics_registry.specs.Held.{Retains, AreOf, ArePlaced, entries_of}
use Rattle.metrics_registry.proofs.HeldLemmas.{by_place, placed-at, placed-set, entries-more}

-- the lists have the same items from n on
abbrev pub SameFrom : {X : Type 0} → ℕ → List X → List X → Type 0
SameFrom {X} n xs ys = (k : ℕ) (d : X) → n ≤ k → get_or ys k d ≡ get_or xs k d

retains-push : {F X : Type 0} (call : F → X → Bool → F → Type 0) (f : F) (xs ks : List X) (g h : F) (x : X) (b : Bool) → Retains call f xs ks g → call g x b h → Retains call f (xs ++ x ∷ []) (cond b (ks ++ x ∷ []) ks) h
retains-push {F} {X} call f [] ks g h x b was calls =
    let P : F → Type 0 = λ p. call p x b h in
    (b, h, [], subst P was.1 calls, (refl, refl), ap (λ (l : List X). cond b (l ++ x ∷ []) l) was.0)
retains-push {F} {X} call f (y ∷ xs) ks g h x b was calls =
    let rest = was.2 in
    (was.0, was.1, cond b (rest ++ x ∷ []) rest, was.3, retains-push call was.1 xs rest g h x b was.4 calls, ap (λ (l : List X). cond b (l ++ x ∷ []) l) was.5 ∙ swapped b was.0 y x rest)
  where
    swapped : (b c : Bool) (y x : X) (rest : List X) → cond b (cond c (y ∷ rest) rest ++ x ∷ []) (cond c (y ∷ rest) rest) ≡ cond c (y ∷ cond b (rest ++ x ∷ []) rest) (cond b (rest ++ x ∷ []) rest)
    swapped true true y x rest = refl
    swapped true false y x rest = refl
    swapped false true y x rest = refl
    swapped false false y x rest = refl

pub get_or-slice_get : {X : Type 0} (xs : List X) (i : ℕ) (x d : X) → slice_get xs i ≡ Some x → (i < length xs) × (get_or xs i d ≡ x)
get_or-slice_get xs i x d is = (grind (arith, is, slice_get_cases xs i), get_or_from_slice_get xs i x d is)

swap-is : {X : Type 0} (ys : List X) (a b : ℕ) (d : X) → a < length ys → b < length ys → swap ys a b ≡ set (set ys a (get_or ys b d)) b (get_or ys a d)
swap-is [] a b d small less = refl
swap-is (y ∷ ys) a b d small less =
    ap (λ v. set (set (y ∷ ys) a v) b (get_or (y ∷ ys) a y)) (get_or_default (y ∷ ys) b y d less)
    ∙ ap (λ v. set (set (y ∷ ys) a (get_or (y ∷ ys) b d)) b v) (get_or_default (y ∷ ys) a y d small)

-- an item that is kept moves after those that are
pub keeps : {F X : Type 0} (call : F → X → Bool → F → Type 0) (f g h : F) (xs ys zs : List X) (kept i : ℕ) (x : X)
    → kept ≤ i → length ys ≡ length xs → SameFrom i xs ys → Retains call f (take i xs) (take kept ys) g → slice_get ys i ≡ Some x → call g x true h → zs ≡ swap ys kept i
    → (length zs ≡ length xs) × Retains call f (take (i + 1) xs) (take (kept + 1) zs) h × SameFrom (i + 1) xs zs
keeps {F} {X} call f g h xs ys zs kept i x le long same was at calls is =
    let here = get_or-slice_get ys i x x at in
    let small : kept < length ys = omega (arith, le, here.0) in
    let e : zs ≡ set (set ys kept x) i (get_or ys kept x) = is ∙ (swap-is ys kept i x small here.0 ∙ ap (λ v. set (set ys kept v) i (get_or ys kept x)) here.1) in
    let item : get_or xs i x ≡ x = sym (same i x (omega arith)) ∙ here.1 in
    let done : take (i + 1) xs ≡ take i xs ++ x ∷ [] = take_more xs i x (omega (arith, here.0, long)) ∙ ap (λ v. take i xs ++ v ∷ []) item in
    let length_zs : length zs ≡ length ys = ap length e ∙ (length-set (set ys kept x) i (get_or ys kept x) ∙ length-set ys kept x) in
    let front : take kept zs ≡ take kept ys = ap (take kept) e ∙ (take-set-le kept (set ys kept x) i (get_or ys kept x) le ∙ take-set-le kept ys kept x (omega arith)) in
    let last : get_or zs kept x ≡ x = ap (λ l. get_or l kept x) e ∙ moved ys kept i x here small in
    let now : take (kept + 1) zs ≡ take kept ys ++ x ∷ [] = take_more zs kept x (omega (arith, small, length_zs)) ∙ (ap (λ v. take kept zs ++ v ∷ []) last ∙ ap (λ l. l ++ x ∷ []) front) in
    let P : List X → List X → Type 0 = λ l k. Retains call f l k h in (
      length_zs ∙ long,
      subst (λ l. P l (take (kept + 1) zs)) (sym done) (subst (P (take i xs ++ x ∷ [])) (sym now) (retains-push call f (take i xs) (take kept ys) g h x true was calls)),
      λ k d more. ap (λ l. get_or l k d) e ∙ (get_or-set_other (set ys kept x) i k (get_or ys kept x) d (λ q. omega (arith, q, more)) ∙ (get_or-set_other ys kept k x d (λ q. omega (arith, q, more, le)) ∙ same k d (omega (arith, more)))),
    )
  where
    moved : (ys : List X) (kept i : ℕ) (x : X) → (i < length ys) × (get_or ys i x ≡ x) → kept < length ys → get_or (set (set ys kept x) i (get_or ys kept x)) kept x ≡ x
    moved ys kept i x here small =
        by_place kept i
        (λ e.
        let P : ℕ → Type 0 = λ k. get_or (set (set ys k x) i (get_or ys k x)) k x ≡ x in
        subst P (sym e) (get_or-set_same (set ys i x) i (get_or ys i x) x (omega (arith, here.0, length-set ys i x)) ∙ here.1))
        (λ apart. get_or-set_other (set ys kept x) i kept (get_or ys kept x) x apart ∙ get_or-set_same ys kept x x small)

-- an item that isn't kept is left out
pub drops : {F X : Type 0} (call : F → X → Bool → F → Type 0) (f g h : F) (xs ys : List X) (kept i : ℕ) (x : X)
    → length ys ≡ length xs → SameFrom i xs ys → Retains call f (take i xs) (take kept ys) g → slice_get ys i ≡ Some x → call g x false h
    → Retains call f (take (i + 1) xs) (take kept ys) h × SameFrom (i + 1) xs ys
drops {F} {X} call f g h xs ys kept i x long same was at calls =
    let here = get_or-slice_get ys i x x at in
    let item : get_or xs i x ≡ x = sym (same i x (omega arith)) ∙ here.1 in
    let done : take (i + 1) xs ≡ take i xs ++ x ∷ [] = take_more xs i x (omega (arith, here.0, long)) ∙ ap (λ v. take i xs ++ v ∷ []) item in
    let P : List X → Type 0 = λ l. Retains call f l (take kept ys) h in
    (subst P (sym done) (retains-push call f (take i xs) (take kept ys) g h x false was calls), λ k d more. same k d (omega (arith, more)))

-- ---- shard after shard

pub retains-append : {F X : Type 0} (call : F → X → Bool → F → Type 0) (f g h : F) (xs ys ks ls : List X) → Retains call f xs ks g → Retains call g ys ls h → Retains call f (xs ++ ys) (ks ++ ls) h
retains-append {F} {X} call f g h [] ys ks ls first second =
    let P : F → List X → Type 0 = λ p l. Retains call p ys (l ++ ls) h in
    subst (λ p. P p ks) first.1 (subst (P g) (sym first.0) second)
retains-append {F} {X} call f g h (x ∷ xs) ys ks ls first second =
    (first.0, first.1, first.2 ++ ls, first.3, retains-append call first.1 g h xs ys first.2 ls first.4 second, ap (λ l. l ++ ls) first.5 ∙ moved first.0 x first.2 ls)
  where
    moved : (b : Bool) (x : X) (rest ls : List X) → cond b (x ∷ rest) rest ++ ls ≡ cond b (x ∷ rest ++ ls) (rest ++ ls)
    moved true x rest ls = refl
    moved false x rest ls = refl

pub of-retained : {F K C : Type 0} (call : F → K × C → Bool → F → Type 0) (number : K → ℕ) (count shard : ℕ) (f g : F) (xs ks : List (K × C)) → AreOf number count shard xs → Retains call f xs ks g → AreOf number count shard ks
of-retained {F} {K} {C} call number count shard f g [] ks of was = let P : List (K × C) → Type 0 = λ l. AreOf number count shard l in subst P (sym was.0) tt
of-retained {F} {K} {C} call number count shard f g (x ∷ xs) ks of was =
    let P : List (K × C) → Type 0 = λ l. AreOf number count shard l in
    subst P (sym was.5) (one was.0 (of-retained call number count shard was.1 g xs was.2 of.1 was.4))
  where
    one : (b : Bool) → AreOf number count shard was.2 → AreOf number count shard (cond b (x ∷ was.2) was.2)
    one true rest = (of.0, rest)
    one false rest = rest

-- one more shard keeps those of its entries that calls answered true at
pub shard-retained : {F K C : Type 0} (call : F → K × C → Bool → F → Type 0) {eq : K → K → Bool} (laws : IsEquivalence eq) (number : K → ℕ) (alike : (x y : K) → eq x y ≡ true → number x ≡ number y) (count i : ℕ) (f g h : F) (ms ns : List (List (K × C))) (m n : List (K × C))
    → length ns ≡ length ms → i < length ns → SameFrom i ms ns → ArePlaced eq number count 0 ns → Retains call f (entries_of (take i ms)) (entries_of (take i ns)) g
    → m ≡ get_or ns i m → Retains call g m n h → IsDistinct eq (keys_of n)
    → ArePlaced eq number count 0 (set ns i n) × Retains call f (entries_of (take (i + 1) ms)) (entries_of (take (i + 1) (set ns i n))) h × SameFrom (i + 1) ms (set ns i n)
shard-retained {F} {K} {C} call {eq} laws number alike count i f g h ms ns m n long small same placed was is now distinct =
    let Of : ℕ → List (K × C) → Type 0 = λ s es. AreOf number count s es in
    let of = of-retained call number count (0 + i) g h m n (placed-at laws number alike count 0 i ns m placed small is) now in
    let old : entries_of (take (i + 1) ms) ≡ entries_of (take i ms) ++ m = entries-more ms i m (omega (arith, small, long)) (is ∙ same i m (omega arith)) in
    let new : entries_of (take (i + 1) (set ns i n)) ≡ entries_of (take i ns) ++ n =
    entries-more (set ns i n) i n (omega (arith, small, length-set ns i n)) (sym (get_or-set_same ns i n n small)) ∙ ap (λ l. entries_of l ++ n) (take-set-le i ns i n (omega arith)) in
    let P : List (K × C) → List (K × C) → Type 0 = λ l k. Retains call f l k h in (
      placed-set laws number alike count 0 i ns n placed of distinct,
      subst (λ l. P l (entries_of (take (i + 1) (set ns i n)))) (sym old) (subst (P (entries_of (take i ms) ++ m)) (sym new) (retains-append call f g h (entries_of (take i ms)) m (entries_of (take i ns)) n was now)),
      λ k d more. get_or-set_other ns i k n d (λ q. omega (arith, q, more)) ∙ same k d (omega (arith, more)),
    )
