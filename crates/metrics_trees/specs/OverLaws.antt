-- The targets of recorders under rules are in their books, and no book has two.
use Rattle.std.proofs.Common.{◌≡◌, ◌⊎◌, ℕ, zero, suc, ◌+◌, ◌<◌, ◌≤◌, List, [], ◌∷◌, ◌++◌, length, take, ap, sym, subst, arith, inl, inr, append-nil, length-append}
use Rattle.metrics_names.specs.declared.kind.MetricKind.{MetricKind}
use Rattle.metrics.specs.Targets.{raise, AllBelow, AreDistinct, IsNot}
use Rattle.metrics.specs.Meaning.{Meaning}
use Rattle.metrics.specs.Layers.{joined_all, targets_of, below_of, distinct_of}
use Rattle.metrics_rules.proofs.JoinedLemmas.{leaves-rise}
use Rattle.std.proofs.lemmas.Bool.{cases_lt}
use Rattle.metrics_trees.specs.Recorders.{books_of, spread, start}

below_append : {X : Type 0} (k : ℕ) (ts us : List (ℕ × X)) → AllBelow k ts → AllBelow k us → AllBelow k (ts ++ us)
below_append k [] us h g = g
below_append k (t ∷ ts) us h g = (h.0, below_append k ts us h.1 g)

pub below_spread : (all : List Meaning) (kind : MetricKind) (ts : List (ℕ × List ℕ)) → AllBelow (length (joined_all all).contents) (spread all kind ts)
below_spread all kind [] = tt
below_spread all kind (t ∷ ts) = below_append (length (joined_all all).contents) (targets_of t.0 all kind t.1) (spread all kind ts) (below_of t.0 all kind t.1) (below_spread all kind ts)

abbrev Within : {X : Type 0} → ℕ → ℕ → List (ℕ × X) → Type 0
Within lo hi [] = Unit {0}
Within lo hi (t ∷ ts) = (lo ≤ t.0) × (t.0 < hi) × Within lo hi ts

within_raise : {X : Type 0} (k lo hi : ℕ) (ts : List (ℕ × X)) → Within lo hi ts → Within (k + lo) (k + hi) (raise k ts)
within_raise k lo hi [] h = tt
within_raise k lo hi (t ∷ ts) h = (omega (arith, h.0), omega (arith, h.1), within_raise k lo hi ts h.2)

within_below : {X : Type 0} (hi : ℕ) (ts : List (ℕ × X)) → AllBelow hi ts → Within 0 hi ts
within_below hi [] h = tt
within_below hi (t ∷ ts) h = (omega arith, h.0, within_below hi ts h.1)

within_of : (w : ℕ) (all : List Meaning) (kind : MetricKind) (name : List ℕ) → Within (start w all) (start (suc w) all) (targets_of w all kind name)
within_of w [] kind name = tt
within_of zero (a ∷ rest) kind name = subst (λ hi. Within 0 hi (a.targets kind name)) (ap length (sym (append-nil a.contents))) (within_below (books_of a) (a.targets kind name) (a.below kind name))
within_of (suc w) (a ∷ rest) kind name =
    let from : (v : ℕ) → books_of a + start v rest ≡ start (suc v) (a ∷ rest) = λ v. sym (length-append a.contents (joined_all (take v rest)).contents) in
    let us = targets_of (suc w) (a ∷ rest) kind name in
    subst (λ lo. Within lo (start (suc (suc w)) (a ∷ rest)) us) (from w)
    (subst (λ hi. Within (books_of a + start w rest) hi us) (from (suc w)) (within_raise (books_of a) (start w rest) (start (suc w) rest) (targets_of w rest kind name) (within_of w rest kind name)))

is_not_append : {X : Type 0} (b : ℕ) (ts us : List (ℕ × X)) → IsNot b ts → IsNot b us → IsNot b (ts ++ us)
is_not_append b [] us h g = g
is_not_append b (t ∷ ts) us h g = (h.0, is_not_append b ts us h.1 g)

is_not_outside : {X : Type 0} (b lo hi : ℕ) (ts : List (ℕ × X)) → Within lo hi ts → (b < lo) ⊎ (hi ≤ b) → IsNot b ts
is_not_outside b lo hi [] h out = tt
is_not_outside b lo hi (t ∷ ts) h (inl l) = ((λ e. absurd (omega (arith, e, h.0, l))), is_not_outside b lo hi ts h.2 (inl l))
is_not_outside b lo hi (t ∷ ts) h (inr l) = ((λ e. absurd (omega (arith, e, h.1, l))), is_not_outside b lo hi ts h.2 (inr l))

-- a book of one recorder is none of another's targets
is_not_of : (all : List Meaning) (w v b : ℕ) (kind : MetricKind) (name : List ℕ) → (v ≡ w → ⊥) → start w all ≤ b → b < start (suc w) all → IsNot b (targets_of v all kind name)
is_not_of all w v b kind name ne lo hi =
    is_not_outside b (start v all) (start (suc v) all) (targets_of v all kind name) (within_of v all kind name) (side (cases_lt v w))
  where
    side : (v < w) ⊎ (w ≤ v) → (b < start v all) ⊎ (start (suc v) all ≤ b)
    side (inl l) = let r = leaves-rise all (suc v) w l in inr (omega (arith, r, lo))
    side (inr l) = let r = leaves-rise all (suc w) v (omega (arith, l, ne)) in inl (omega (arith, r, hi))

is_not_spread : (all : List Meaning) (w b : ℕ) (kind : MetricKind) (ts : List (ℕ × List ℕ)) → IsNot w ts → start w all ≤ b → b < start (suc w) all → IsNot b (spread all kind ts)
is_not_spread all w b kind [] ne lo hi = tt
is_not_spread all w b kind (t ∷ ts) ne lo hi =
    is_not_append b (targets_of t.0 all kind t.1) (spread all kind ts) (is_not_of all w t.0 b kind t.1 ne.0 lo hi) (is_not_spread all w b kind ts ne.1 lo hi)

distinct_append : {X : Type 0} (lo hi : ℕ) (ts us : List (ℕ × X)) → AreDistinct ts → AreDistinct us → Within lo hi ts → ((b : ℕ) → lo ≤ b → b < hi → IsNot b us) → AreDistinct (ts ++ us)
distinct_append lo hi [] us d e w h = e
distinct_append lo hi (t ∷ ts) us d e w h = (is_not_append t.0 ts us d.0 (h t.0 w.0 w.1), distinct_append lo hi ts us d.1 e w.2 h)

pub distinct_spread : (all : List Meaning) (kind : MetricKind) (ts : List (ℕ × List ℕ)) → AreDistinct ts → AreDistinct (spread all kind ts)
distinct_spread all kind [] d = tt
distinct_spread all kind (t ∷ ts) d =
    distinct_append (start t.0 all) (start (suc t.0) all) (targets_of t.0 all kind t.1) (spread all kind ts) (distinct_of t.0 all kind t.1) (distinct_spread all kind ts d.1)
    (within_of t.0 all kind t.1) (λ b lo hi. is_not_spread all t.0 b kind ts d.0 lo hi)
