-- The bounds that a list sets for prefixes, and an exporter that was made.
use Rattle.std.proofs.Common.{◌≡◌, ℕ, ◌+◌, ◌<◌, Bool, true, false, cond, List, [], ◌∷◌, ◌++◌, length, take, get_or, None, Some, ap, sym, refl, ◌∙◌}
use Rattle.std.specs.Prelude.{ℤ, Option, bytes_eq, Result, Ok, Err, IfOk}
use Rattle.std.specs.Option.{option_or, unwrap_or}
use Rattle.std.proofs.lemmas.List.{take_more}
use Rattle.metrics_names.specs.declared.common.Unit.{Unit as Measure}
use Rattle.metrics_storage.specs.Histogram.{bounds_of}
use Rattle.metrics_exporter.specs.declared.bounds.Bounds.{Bounds}
use Rattle.metrics_exporter.specs.Choice.{unit_for, default_in}
use Rattle.metrics_exporter.specs.Units.{unit_eq}
use Rattle.tool_prometheus.specs.declared.making.PrefixBounds.{PrefixBounds}
use Rattle.tool_prometheus.specs.declared.making.UnitBounds.{UnitBounds}
use Rattle.tool_prometheus.specs.Making.{set_by, set_in, or_set_in}

or-cond : (b : Bool) (ns : List ℤ) (o rest : Option (List ℤ)) → option_or (cond b (Some ns) o) rest ≡ cond b (Some ns) (option_or o rest)
or-cond true ns o rest = refl
or-cond false ns o rest = refl

-- one more sets its own prefix, and no other
pub set-more : (xs : List PrefixBounds) (x : PrefixBounds) (p : List ℕ) → set_by (xs ++ x ∷ []) p ≡ cond (bytes_eq p x.prefix) (Some x.bounds) (set_by xs p)
set-more [] x p = refl
set-more (y ∷ xs) x p =
    ap (λ o. option_or o (cond (bytes_eq p y.prefix) (Some y.bounds) None)) (set-more xs x p)
    ∙ or-cond (bytes_eq p x.prefix) x.bounds (set_by xs p) (cond (bytes_eq p y.prefix) (Some y.bounds) None)

-- the bounds that one more of the list sets
pub set-next : (old new : List ℕ → Option (List ℤ)) (xs : List PrefixBounds) (i : ℕ) (x : PrefixBounds) → i < length xs → x ≡ get_or xs i x
    → ((p : List ℕ) → old p ≡ set_by (take i xs) p) → ((p : List ℕ) → new p ≡ cond (bytes_eq p x.prefix) (Some x.bounds) (old p))
    → (p : List ℕ) → new p ≡ set_by (take (i + 1) xs) p
set-next old new xs i x small at were changed p =
    changed p ∙ ap (cond (bytes_eq p x.prefix) (Some x.bounds)) (were p)
    ∙ sym (set-more (take i xs) x p)
    ∙ ap (λ (y : PrefixBounds). set_by (take i xs ++ y ∷ []) p) at
    ∙ sym (ap (λ (ys : List PrefixBounds). set_by ys p) (take_more xs i x small))

-- ---- units

-- one more sets its own unit, and no other
in-more : (xs : List UnitBounds) (x : UnitBounds) (u : Measure) → set_in (xs ++ x ∷ []) u ≡ cond (unit_eq x.unit u) (Some x.bounds) (set_in xs u)
in-more [] x u = refl
in-more (y ∷ xs) x u =
    ap (λ o. option_or o (cond (unit_eq y.unit u) (Some y.bounds) None)) (in-more xs x u)
    ∙ or-cond (unit_eq x.unit u) x.bounds (set_in xs u) (cond (unit_eq y.unit u) (Some y.bounds) None)

-- the bounds that one more of the list sets
pub in-next : (old new : Measure → Option (List ℤ)) (xs : List UnitBounds) (i : ℕ) (x : UnitBounds) → i < length xs → x ≡ get_or xs i x
    → ((u : Measure) → old u ≡ set_in (take i xs) u) → ((u : Measure) → new u ≡ cond (unit_eq x.unit u) (Some x.bounds) (old u))
    → (u : Measure) → new u ≡ set_in (take (i + 1) xs) u
in-next old new xs i x small at were changed u =
    changed u ∙ ap (cond (unit_eq x.unit u) (Some x.bounds)) (were u)
    ∙ sym (in-more (take i xs) x u)
    ∙ ap (λ (y : UnitBounds). set_in (take i xs ++ y ∷ []) u) at
    ∙ sym (ap (λ (ys : List UnitBounds). set_in ys u) (take_more xs i x small))

-- the bounds of each unit
pub units-same : (b : Bounds) (units : List UnitBounds) (default : List ℤ) → bounds_of b.default ≡ default → ((u : Measure) → unit_for b u ≡ set_in units u)
    → (unit : Option Measure) → default_in b unit ≡ or_set_in units default unit
units-same b units default same set None = same
units-same b units default same set (Some u) = (λ i. unwrap_or (set u i) (same i))

-- ---- an exporter that was made

pub ok-both : {T E : Type 0} (r : Result T E) (P Q : T → Type 0) → IfOk r P → IfOk r Q → IfOk r (λ t. P t × Q t)
ok-both (Ok t) P Q h g = (h, g)
ok-both (Err e) P Q h g = tt
