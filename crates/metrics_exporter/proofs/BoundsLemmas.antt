-- The bounds of the longest prefix of a name.
use Rattle.std.proofs.Common.{◌≡◌, ℕ, zero, suc, ◌+◌, ◌<◌, ◌≤◌, ℤ, Bool, true, false, cond, List, [], ◌∷◌, ◌++◌, length, take, Option, None, Some, IsSome, slice_get, All, refl, sym, ap, ◌∙◌, subst, arith, inl, inr, true≢false}
use Rattle.std.specs.Prelude.{◌⊎◌, OnOk, OnErr}
use Rattle.std.specs.declared.result.Result.{Result}
use Rattle.std.specs.declared.result.Result.TheVariants.{Ok, Err}
use Rattle.std.specs.Option.{option_or, option_map, unwrap_or}
use Rattle.std.specs.Str.{bytes_eq}
use Rattle.std.proofs.lemmas.List.{length-take-le}
use Rattle.std.proofs.lemmas.Option.{get_or_from_slice_get, slice_get_within}
use Rattle.std.proofs.lemmas.Slice.Eq.{bytes_eq-Decides}
use Rattle.metrics_storage.specs.Histogram.{Distribution, no_samples, bounds_of}
use Rattle.prefix_match.specs.TriePatterns.{stored, IsFront, HasNoFront, IsLongest}
use Rattle.prefix_match.proofs.TrieFronts.{front_begins, begins_fits, begins_take}
use Rattle.metrics_exporter.specs.Choice.{or_default}
use Rattle.metrics_exporter.specs.Prefixes.{longest_within, at_longest, IsSetAtLongest, IsSetAtNone, IsEmpty, ArePlaces, AreEmptyAt}

-- ---- no samples

pub bounds-back : (bounds : List ℤ) → bounds_of (no_samples bounds) ≡ bounds
bounds-back [] = refl
bounds-back (b ∷ bounds) = ap (λ l. b ∷ l) (bounds-back bounds)

empty-none : (bounds : List ℤ) → IsEmpty (no_samples bounds)
empty-none bounds = ap no_samples (sym (bounds-back bounds))

pub is-empty : (d : Distribution) (bounds : List ℤ) → d ≡ no_samples bounds → IsEmpty d
is-empty d bounds is = subst IsEmpty (sym is) (empty-none bounds)

-- ---- the longest prefix for which something is set

take-front : (name : List ℕ) (n : ℕ) → n ≤ length name → IsFront (take n name) name
take-front name n l = (bytes_eq-Decides _ _).1 (sym (begins_take n name l))

none-of : {A : Type 0} (o : Option A) → (IsSome o → ⊥) → o ≡ None
none-of None h = refl
none-of (Some a) h = absurd (h refl)

at-most : (k n : ℕ) → k ≤ suc n → (k ≡ suc n) ⊎ (k ≤ n)
at-most zero n l = inr (omega arith)
at-most (suc k) zero l = inl (omega arith)
at-most (suc k) (suc n) l = further (at-most k n (omega arith))
  where
    further : (k ≡ suc n) ⊎ (k ≤ n) → (suc k ≡ suc (suc n)) ⊎ (suc k ≤ suc n)
    further (inl e) = inl (ap suc e)
    further (inr l) = inr (omega arith)

module _ {A : Type 0} (set : List ℕ → Option A) (name : List ℕ) where
  within-none : IsSetAtNone set name → (n : ℕ) → n ≤ length name → longest_within set name n ≡ None
  within-none h zero l = none-of (set []) (λ s. h [] s refl)
  within-none h (suc n) l =
      ap (λ o. option_or o (longest_within set name n)) (none-of (set (take (suc n) name)) (λ s. h (take (suc n) name) s (take-front name (suc n) l)))
      ∙ within-none h n (omega arith)

  within-some : (p : List ℕ) (v : A) (n : ℕ) → IsSetAtLongest set name p v → length p ≤ n → n ≤ length name → longest_within set name n ≡ Some v
  within-some [] v zero a l m = a.has
  within-some (x ∷ p) v zero a l m = absurd (omega arith)
  within-some p v (suc n) a l m = at-or-below (λ b. within-some p v n a b (omega arith)) (at-most (length p) n l)
    where
      at-or-below : (length p ≤ n → longest_within set name n ≡ Some v) → (length p ≡ suc n) ⊎ (length p ≤ n) → longest_within set name (suc n) ≡ Some v
      at-or-below below (inl e) =
          let same : take (suc n) name ≡ p = ap (λ k. take k name) (sym e) ∙ front_begins p name a.front in
          ap (λ o. option_or o (longest_within set name n)) (ap set same ∙ a.has)
      at-or-below below (inr l) =
          let len : length (take (suc n) name) ≡ suc n = length-take-le (suc n) name m in
          let no : IsSome (set (take (suc n) name)) → ⊥ = λ s. (let le = a.longest (take (suc n) name) s (take-front name (suc n) m) in omega (arith, le, len)) in
          ap (λ o. option_or o (longest_within set name n)) (none-of (set (take (suc n) name)) no) ∙ below l

  pub at-none : (default : A) → IsSetAtNone set name → at_longest default set name ≡ default
  at-none default h = ap (λ o. unwrap_or o default) (within-none h (length name) (omega arith))

  pub at-some : (default value : A) (p : List ℕ) → IsSetAtLongest set name p value → at_longest default set name ≡ value
  at-some default value p a = ap (λ o. unwrap_or o default) (within-some p value (length name) a (begins_fits p name (front_begins p name a.front)) (omega arith))

-- ---- what is set by places

map-some : {A B : Type 0} (f : A → B) (o : Option A) → IsSome (option_map f o) → IsSome o
map-some f None h = h
map-some f (Some a) h = refl

module _ {A : Type 0} (f : ℕ → A) (pairs : List (List ℕ × ℕ)) (name : List ℕ) where
  abbrev set : List ℕ → Option A
  set prefix = option_map f (stored pairs prefix)

  pub placed-none : (default : A) → HasNoFront pairs name → at_longest default set name ≡ default
  placed-none default h = at-none set name default (λ q s. h q (map-some f (stored pairs q) s))

  pub placed-some : (default : A) (place : ℕ) → IsLongest pairs name place → at_longest default set name ≡ f place
  placed-some default place (p, a) = at-some set name default (f place) p (record {
    has = ap (option_map f) a.has_value;
    front = a.front;
    longest = λ q s. a.longest q (map-some f (stored pairs q) s);
  })

pub places-none : (pairs : List (List ℕ × ℕ)) (n : ℕ) → pairs ≡ [] → ArePlaces pairs n
places-none pairs n none prefix place e =
    absurd (let h : None ≡ Some place = sym (ap (λ (ps : List (List ℕ × ℕ)). stored ps prefix) none) ∙ e in cc)

-- what an insert of a place leaves
abbrev pub Inserts : List (List ℕ × ℕ) → List (List ℕ × ℕ) → List ℕ → ℕ → Type 0
Inserts old new pattern place = (q : List ℕ) → stored new q ≡ cond (bytes_eq q pattern) (Some place) (stored old q)

same-some : (m n : ℕ) → Some m ≡ Some n → m ≡ n
same-some m n e = cc

pub places-more : (old new : List (List ℕ × ℕ)) (pattern : List ℕ) (n : ℕ) → ArePlaces old n → Inserts old new pattern n → ArePlaces new (n + 1)
places-more old new pattern n were inserts prefix place e = go (bytes_eq prefix pattern) (sym (inserts prefix) ∙ e)
  where
    go : (b : Bool) → cond b (Some n) (stored old prefix) ≡ Some place → place < n + 1
    go true is = let same : n ≡ place = same-some n place is in omega (arith, same)
    go false is = let l : place < n = were prefix place is in omega (arith, l)

slice_get-front : {A : Type 0} (xs ys : List A) (i : ℕ) → i < length xs → slice_get (xs ++ ys) i ≡ slice_get xs i
slice_get-front [] ys i l = absurd (omega (arith, l))
slice_get-front (x ∷ xs) ys zero l = refl
slice_get-front (x ∷ xs) ys (suc i) l = slice_get-front xs ys i (omega (arith, l))

pub slice_get-end : {A : Type 0} (xs : List A) (y : A) → slice_get (xs ++ y ∷ []) (length xs) ≡ Some y
slice_get-end [] y = refl
slice_get-end (x ∷ xs) y = slice_get-end xs y

module _ {A B : Type 0} (f : Option A → B) (chosen : List A) (one : A) (old new : List (List ℕ × ℕ)) (pattern : List ℕ) where
  abbrev at : List A → ℕ → B
  at all place = f (slice_get all place)

  -- one more is set for its own prefix, and nothing changes for any other
  pub sets-one : ArePlaces old (length chosen) → Inserts old new pattern (length chosen) → (p : List ℕ)
      → option_map (at (chosen ++ one ∷ [])) (stored new p) ≡ cond (bytes_eq p pattern) (Some (f (Some one))) (option_map (at chosen) (stored old p))
  sets-one were inserts p = ap (option_map (at (chosen ++ one ∷ []))) (inserts p) ∙ go (bytes_eq p pattern) (stored old p) refl
    where
      go : (b : Bool) (o : Option ℕ) → stored old p ≡ o → option_map (at (chosen ++ one ∷ [])) (cond b (Some (length chosen)) o) ≡ cond b (Some (f (Some one))) (option_map (at chosen) o)
      go true o e = ap (λ x. Some (f x)) (slice_get-end chosen one)
      go false None e = refl
      go false (Some place) e = ap (λ x. Some (f x)) (slice_get-front chosen (one ∷ []) place (were p place e))

-- ---- the fields

empty-at : (default : Distribution) (chosen : List Distribution) (place : ℕ) → IsEmpty default → All IsEmpty chosen → IsEmpty (or_default default (slice_get chosen place))
empty-at default chosen place one all = go (slice_get chosen place) refl
  where
    go : (o : Option Distribution) → slice_get chosen place ≡ o → IsEmpty (or_default default o)
    go None e = one
    go (Some d) e = subst IsEmpty (get_or_from_slice_get chosen place d default e) (all place default (slice_get_within chosen place d e))

module _ (default : Distribution) (pairs : List (List ℕ × ℕ)) (chosen : List Distribution) where
  -- what is set for a prefix, and the bounds of a name that else has other ones, by the fields
  abbrev set-in : List ℕ → Option (List ℤ)
  set-in prefix = option_map (λ place. bounds_of (or_default default (slice_get chosen place))) (stored pairs prefix)

  abbrev in-all : List ℤ → List ℕ → List ℤ
  in-all other name = at_longest other set-in name

  some-none : IsSome {T = ℕ} None → ⊥
  some-none h = true≢false (sym h)

  -- no prefix is set
  pub bounds-all : (bounds other : List ℤ) → other ≡ bounds → pairs ≡ [] → (name : List ℕ) → in-all other name ≡ bounds
  bounds-all bounds other is none name =
      placed-none (λ place. bounds_of (or_default default (slice_get chosen place))) pairs name other (λ q s. absurd (some-none (subst IsSome (ap (λ (ps : List (List ℕ × ℕ)). stored ps q) none) s)))
      ∙ is

  pub set-one : (new : List (List ℕ × ℕ)) (all : List Distribution) (one : Distribution) (bounds : List ℤ) (pattern : List ℕ) → all ≡ chosen ++ one ∷ [] → one ≡ no_samples bounds
      → ArePlaces pairs (length chosen) → Inserts pairs new pattern (length chosen)
      → (p : List ℕ) → option_map (λ place. bounds_of (or_default default (slice_get all place))) (stored new p) ≡ cond (bytes_eq p pattern) (Some bounds) (set-in p)
  set-one new all one bounds pattern is-all is were inserts p =
      (λ i. option_map (λ place. bounds_of (or_default default (slice_get (is-all i) place))) (stored new p))
      ∙ sets-one (λ o. bounds_of (or_default default o)) chosen one pairs new pattern were inserts p
      ∙ ap (λ ns. cond (bytes_eq p pattern) (Some ns) (set-in p)) (ap bounds_of is ∙ bounds-back bounds)

  pub chosen-none : (other : Distribution) (name : List ℕ) → IsEmpty other → HasNoFront pairs name → other ≡ no_samples (in-all (bounds_of other) name)
  chosen-none other name one h =
      one ∙ ap no_samples (sym (placed-none (λ place. bounds_of (or_default default (slice_get chosen place))) pairs name (bounds_of other) h))

  pub chosen-some : (other : List ℤ) (name : List ℕ) (place : ℕ) → IsEmpty default → All IsEmpty chosen → IsLongest pairs name place
      → or_default default (slice_get chosen place) ≡ no_samples (in-all other name)
  chosen-some other name place one all h =
      empty-at default chosen place one all
      ∙ ap no_samples (sym (placed-some (λ place. bounds_of (or_default default (slice_get chosen place))) pairs name other place h))

-- ---- bounds of exact names and of units

pub exact-some : (o : Option Distribution) (d : Distribution) (rest : List ℤ) → o ≡ Some d → IsEmpty d → d ≡ no_samples (unwrap_or (option_map bounds_of o) rest)
exact-some o d rest e h = h ∙ ap (λ x. no_samples (unwrap_or (option_map bounds_of x) rest)) (sym e)

pub exact-none : (o : Option Distribution) (rest : List ℤ) → o ≡ None → rest ≡ unwrap_or (option_map bounds_of o) rest
exact-none o rest e = ap (λ x. unwrap_or (option_map bounds_of x) rest) (sym e)

pub empty-none-set : {A : Type 0} (f : A → Option Distribution) → ((a : A) → f a ≡ None) → AreEmptyAt f
empty-none-set f none a d e = absurd (let h : None ≡ Some d = sym (none a) ∙ e in cc)

some-same : (a b : Distribution) → Some a ≡ Some b → a ≡ b
some-same a b e = cc

module _ {A : Type 0} (f g : A → Option Distribution) (test : A → Bool) (x : Distribution) (bounds : List ℤ) (is : x ≡ no_samples bounds) where
  -- what an insert of the histogram leaves, where the test passes
  abbrev pub Puts : Type 0
  Puts = (a : A) → g a ≡ cond (test a) (Some x) (f a)

  empty-more : Puts → AreEmptyAt f → AreEmptyAt g
  empty-more puts were a d e = go (test a) (sym (puts a) ∙ e)
    where
      go : (b : Bool) → cond b (Some x) (f a) ≡ Some d → IsEmpty d
      go true e = subst IsEmpty (some-same x d e) (is-empty x bounds is)
      go false e = were a d e

  pub bounds-more : Puts → (a : A) → option_map bounds_of (g a) ≡ cond (test a) (Some bounds) (option_map bounds_of (f a))
  bounds-more puts a = ap (option_map bounds_of) (puts a) ∙ go (test a)
    where
      go : (b : Bool) → option_map bounds_of (cond b (Some x) (f a)) ≡ cond b (Some bounds) (option_map bounds_of (f a))
      go true = ap Some (ap bounds_of is ∙ bounds-back bounds)
      go false = refl

  -- the same of an insert that may fail
  pub empty-after : {T E : Type 0} (r : Result T E) → OnOk r Puts → OnErr r ((a : A) → g a ≡ f a) → AreEmptyAt f → AreEmptyAt g
  empty-after (Ok v) puts same were = empty-more puts were
  empty-after (Err e) puts same were = λ a d h. were a d (sym (same a) ∙ h)

pub exact-more : (f g : List ℕ → Option Distribution) (name bs : List ℕ) (x : Distribution) (bounds : List ℤ) (is : x ≡ no_samples bounds) → bs ≡ name → Puts f g (bytes_eq bs) x bounds is
    → (n : List ℕ) → option_map bounds_of (g n) ≡ cond (bytes_eq name n) (Some bounds) (option_map bounds_of (f n))
exact-more f g name bs x bounds is same puts n =
    bounds-more f g (bytes_eq bs) x bounds is puts n ∙ ap (λ m. cond (bytes_eq m n) (Some bounds) (option_map bounds_of (f n))) same

pub bounds-none : (o : Option Distribution) (rest bounds : List ℤ) → o ≡ None → rest ≡ bounds → unwrap_or (option_map bounds_of o) rest ≡ bounds
bounds-none o rest bounds none is = sym (exact-none o rest none) ∙ is
