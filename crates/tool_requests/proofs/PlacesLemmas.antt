-- The decimal places of the longest prefix of a name.
use Rattle.std.proofs.Common.{◌≡◌, ◌∙◌, ℕ, ◌+◌, ◌<◌, ◌≤◌, Bool, true, false, cond, List, [], ◌∷◌, ◌++◌, length, take, get_or, None, Some, IsSome, ◌⊎◌, inl, inr, refl, ap, sym, subst, arith}
use Rattle.std.specs.Prelude.{Option, bytes_eq}
use Rattle.std.specs.Bool.{Decides}
use Rattle.std.specs.Option.{option_or}
use Rattle.std.proofs.lemmas.List.{take_more, take_all}
use Rattle.std.proofs.lemmas.Slice.Eq.{bytes_eq-Decides}
use Rattle.prefix_match.specs.TriePatterns.{IsFront}
use Rattle.metrics_exporter.proofs.BoundsLemmas.{at-none, at-some}
use Rattle.tool_requests.specs.declared.places.PrefixPlaces.{PrefixPlaces}
use Rattle.tool_requests.specs.Places.{places_set, places_at, IsBest}

or-cond : (b : Bool) (n : ℕ) (o rest : Option ℕ) → option_or (cond b (Some n) o) rest ≡ cond b (Some n) (option_or o rest)
or-cond true n o rest = refl
or-cond false n o rest = refl

-- one more sets its own prefix, and no other
set-more : (xs : List PrefixPlaces) (x : PrefixPlaces) (p : List ℕ) → places_set (xs ++ x ∷ []) p ≡ cond (bytes_eq p x.prefix) (Some x.places) (places_set xs p)
set-more [] x p = refl
set-more (y ∷ xs) x p =
    ap (λ o. option_or o (cond (bytes_eq p y.prefix) (Some y.places) None)) (set-more xs x p)
    ∙ or-cond (bytes_eq p x.prefix) x.places (places_set xs p) (cond (bytes_eq p y.prefix) (Some y.places) None)

module _ (xs : List PrefixPlaces) (x : PrefixPlaces) (name : List ℕ) where
  abbrev more : List PrefixPlaces
  more = xs ++ x ∷ []

  -- a prefix that the longer list sets is the new one, or the shorter list sets it
  set-of : (q : List ℕ) → IsSome (places_set more q) → (q ≡ x.prefix) ⊎ IsSome (places_set xs q)
  set-of q h = go (bytes_eq q x.prefix) (bytes_eq-Decides q x.prefix) (subst IsSome (set-more xs x q) h)
    where
      go : (b : Bool) → Decides b (q ≡ x.prefix) → IsSome (cond b (Some x.places) (places_set xs q)) → (q ≡ x.prefix) ⊎ IsSome (places_set xs q)
      go true same h = inl (same.0 refl)
      go false same h = inr h

  own : places_set more x.prefix ≡ Some x.places
  own = set-more xs x x.prefix ∙ ap (λ b. cond b (Some x.places) (places_set xs x.prefix)) ((bytes_eq-Decides x.prefix x.prefix).1 refl)

  -- the new one begins no name
  pub best-stays : (best : Option PrefixPlaces) → (IsFront x.prefix name → ⊥) → IsBest xs name best → IsBest more name best
  best-stays None other h = λ q some front. go (set-of q some) front
    where
      go : {q : List ℕ} → (q ≡ x.prefix) ⊎ IsSome (places_set xs q) → IsFront q name → ⊥
      go (inl e) front = other (subst (λ p. IsFront p name) e front)
      go {q} (inr some) front = h q some front
  best-stays (Some b) other h = record {
    has = set-more xs x b.prefix ∙ keeps (bytes_eq b.prefix x.prefix) refl;
    front = h.front;
    longest = λ q some front. go q (set-of q some) front;
  }
    where
      keeps : (test : Bool) → bytes_eq b.prefix x.prefix ≡ test → cond test (Some x.places) (places_set xs b.prefix) ≡ Some b.places
      keeps true e = absurd (other (subst (λ p. IsFront p name) ((bytes_eq-Decides b.prefix x.prefix).0 e) h.front))
      keeps false e = h.has

      go : (q : List ℕ) → (q ≡ x.prefix) ⊎ IsSome (places_set xs q) → IsFront q name → length q ≤ length b.prefix
      go q (inl e) front = absurd (other (subst (λ p. IsFront p name) e front))
      go q (inr some) front = h.longest q some front

  -- the new one is longer
  pub best-new : (best : Option PrefixPlaces) → IsFront x.prefix name → ((b : PrefixPlaces) → best ≡ Some b → length b.prefix ≤ length x.prefix)
      → IsBest xs name best → IsBest more name (Some x)
  best-new best front longer h = record {
    has = own;
    front = front;
    longest = λ q some at. go best longer h q (set-of q some) at;
  }
    where
      go : (best : Option PrefixPlaces) → ((b : PrefixPlaces) → best ≡ Some b → length b.prefix ≤ length x.prefix) → IsBest xs name best
          → (q : List ℕ) → (q ≡ x.prefix) ⊎ IsSome (places_set xs q) → IsFront q name → length q ≤ length x.prefix
      go best longer h q (inl e) at = omega (arith, ap length e)
      go None longer h q (inr some) at = absurd (h q some at)
      go (Some b) longer h q (inr some) at = let l = longer b refl in let m = h.longest q some at in omega (arith, l, m)

  -- the new one is no longer than the best
  best-kept : (b : PrefixPlaces) → length x.prefix < length b.prefix → IsBest xs name (Some b) → IsBest more name (Some b)
  best-kept b shorter h = record {
    has = set-more xs x b.prefix ∙ keeps (bytes_eq b.prefix x.prefix) refl;
    front = h.front;
    longest = λ q some front. go q (set-of q some) front;
  }
    where
      keeps : (test : Bool) → bytes_eq b.prefix x.prefix ≡ test → cond test (Some x.places) (places_set xs b.prefix) ≡ Some b.places
      keeps true e = absurd (let l = ap length ((bytes_eq-Decides b.prefix x.prefix).0 e) in omega (arith, l, shorter))
      keeps false e = h.has

      go : (q : List ℕ) → (q ≡ x.prefix) ⊎ IsSome (places_set xs q) → IsFront q name → length q ≤ length b.prefix
      go q (inl e) front = let l = ap length e in omega (arith, l, shorter)
      go q (inr some) front = h.longest q some front

  -- the same, where the best is known by an equation
  pub best-kept-of : (best : Option PrefixPlaces) (b : PrefixPlaces) → best ≡ Some b → length x.prefix < length b.prefix → IsBest xs name best → IsBest more name best
  best-kept-of best b is shorter h = subst (IsBest more name) (sym is) (best-kept b shorter (subst (IsBest xs name) is h))

-- the new one is no shorter than the best, where there is one
pub longer-none : (best : Option PrefixPlaces) (x : PrefixPlaces) → best ≡ None → (b : PrefixPlaces) → best ≡ Some b → length b.prefix ≤ length x.prefix
longer-none best x none b is = absurd (cc)

pub longer-of : (best : Option PrefixPlaces) (x other : PrefixPlaces) → best ≡ Some other → length other.prefix ≤ length x.prefix
    → (b : PrefixPlaces) → best ≡ Some b → length b.prefix ≤ length x.prefix
longer-of best x other is longer b was =
    let same : other ≡ b = cc in
    subst (λ (o : PrefixPlaces). length o.prefix ≤ length x.prefix) same longer

-- all of the list
pub best-whole : (xs : List PrefixPlaces) (i : ℕ) (name : List ℕ) (best : Option PrefixPlaces) → length xs ≤ i → IsBest (take i xs) name best → IsBest xs name best
best-whole xs i name best all h = subst (λ (ys : List PrefixPlaces). IsBest ys name best) (take_all i xs all) h

-- one more of the list
pub best-next : (xs : List PrefixPlaces) (i : ℕ) (x : PrefixPlaces) (name : List ℕ) (best : Option PrefixPlaces) → i < length xs → x ≡ get_or xs i x
    → IsBest (take i xs ++ x ∷ []) name best → IsBest (take (i + 1) xs) name best
best-next xs i x name best small at h =
    subst (λ (ys : List PrefixPlaces). IsBest ys name best) (sym (take_more xs i x small)) (subst (λ (y : PrefixPlaces). IsBest (take i xs ++ y ∷ []) name best) at h)

-- the best of the whole list decides
pub best-found : (xs : List PrefixPlaces) (name : List ℕ) (best : Option PrefixPlaces) (b : PrefixPlaces) → best ≡ Some b → IsBest xs name best
    → b.places ≡ places_at xs name
best-found xs name best b is h = sym (at-some (places_set xs) name 0 b.places b.prefix (subst (IsBest xs name) is h))

pub best-none : (xs : List PrefixPlaces) (name : List ℕ) (best : Option PrefixPlaces) → best ≡ None → IsBest xs name best → 0 ≡ places_at xs name
best-none xs name best is h = sym (at-none (places_set xs) name 0 (subst (IsBest xs name) is h))
