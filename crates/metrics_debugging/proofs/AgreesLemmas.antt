-- What numbers that agree with the series say of them.
use Rattle.std.proofs.Common.{◌≡◌, ℕ, zero, suc, ◌<◌, Bool, true, false, List, [], ◌∷◌, length, map, Option, None, Some, position, refl, ap, sym, ◌∙◌, arith, slice_get, option_map, true≢false}
use Rattle.std.proofs.lemmas.Option.{slice_get-map}
use Rattle.metrics_names.specs.declared.kind.MetricKind.{MetricKind}
use Rattle.metrics_names.specs.declared.kind.MetricKind.TheVariants.{Counter, Gauge, Histogram}
use Rattle.metrics_names.specs.Names.{KeyParts, SeriesKey, kind_eq, key_eq, series_key_eq}
use Rattle.metrics_names.specs.Equality.{kind_eq-Decides}
use Rattle.metrics.specs.declared.kind.PerKind.{PerKind}
use Rattle.metrics.specs.Book.{Series, is_of, new_value}
use Rattle.metrics.specs.Kinds.{of_kind, with_kind}
use Rattle.metrics_registry.specs.Held.{held}
use Rattle.metrics_debugging.specs.declared.debugging.series.Stored.{Stored}
use Rattle.metrics_debugging.specs.DebuggingCells.{value_of, kind_of_value}
use Rattle.metrics_debugging.specs.DebuggingSeries.{Numbers, series_key, spot, key_at, series_at, all_series, IsWithin, Agrees}
use Rattle.metrics_debugging.proofs.SeriesLemmas.{key_of, position-keys}

pub by_test : {P : Type 0} (b : Bool) → (b ≡ true → P) → (b ≡ false → P) → P
by_test true p q = p refl
by_test false p q = q refl

module _ {A : Type 0} where
  pub inside : (xs : List A) (i : ℕ) (y : A) → slice_get xs i ≡ Some y → i < length xs
  inside [] i y h = cc
  inside (x ∷ xs) zero y h = omega arith
  inside (x ∷ xs) (suc i) y h = let r = inside xs i y h in omega (arith, r)

module _ {A B : Type 0} (g h : A → B) where
  pub map-other : (xs : List A) → ((t : ℕ) (x : A) → slice_get xs t ≡ Some x → h x ≡ g x) → map h xs ≡ map g xs
  map-other [] other = refl
  map-other (x ∷ xs) other = ap (λ y. y ∷ map h xs) (other zero x refl) ∙ ap (λ ys. g x ∷ ys) (map-other xs (λ t. other (suc t)))

-- ---- kinds

module _ {T : Type 0} (m : PerKind T) (w : T) where
  pub of-same : (k : MetricKind) → of_kind k (with_kind k m w) ≡ w
  of-same Counter = refl
  of-same Gauge = refl
  of-same Histogram = refl

  pub of-other : (j k : MetricKind) → kind_eq j k ≡ false → of_kind k (with_kind j m w) ≡ of_kind k m
  of-other Counter Counter e = absurd (true≢false e)
  of-other Counter Gauge e = refl
  of-other Counter Histogram e = refl
  of-other Gauge Counter e = refl
  of-other Gauge Gauge e = absurd (true≢false e)
  of-other Gauge Histogram e = refl
  of-other Histogram Counter e = refl
  of-other Histogram Gauge e = refl
  of-other Histogram Histogram e = absurd (true≢false e)

pub kind-new : (k : MetricKind) → kind_of_value (new_value k) ≡ k
kind-new Counter = refl
kind-new Gauge = refl
kind-new Histogram = refl

pub same_kind : (k : MetricKind) → kind_eq k k ≡ true
same_kind k = (kind_eq-Decides k k).1 refl

-- ---- keys in order

module _ (numbers : Numbers) where
  pub keys-order : (stored : List Stored) → map key_of (all_series numbers stored) ≡ map (key_at numbers) (map spot stored)
  keys-order [] = refl
  keys-order (s ∷ stored) = ap (λ ks. key_at numbers (spot s) ∷ ks) (keys-order stored)

  module _ (stored : List Stored) where
    pub position-order : (k : SeriesKey) → position (is_of k) (all_series numbers stored) ≡ position (series_key_eq k) (map (key_at numbers) (map spot stored))
    position-order k = position-keys k (all_series numbers stored) ∙ ap (position (series_key_eq k)) (keys-order stored)

    -- the kind of a series is that of its cell
    pub kinds-order : (s : ℕ) → option_map (λ (x : Series). x.key.kind) (slice_get (all_series numbers stored) s) ≡ option_map (λ (x : Stored). kind_of_value (value_of x.cell)) (slice_get stored s)
    kinds-order s = ap (option_map (λ (x : Series). x.key.kind)) (slice_get-map (series_at numbers) stored s) ∙ twice (slice_get stored s)
      where
        twice : (o : Option Stored) → option_map (λ (x : Series). x.key.kind) (option_map (series_at numbers) o) ≡ option_map (λ (x : Stored). kind_of_value (value_of x.cell)) o
        twice None = refl
        twice (Some x) = refl

    module _ (agree : Agrees numbers (map spot stored)) where
      -- the number at a key is that of the key's series
      pub number-found : (kind : MetricKind) (key : KeyParts) → held key_eq (of_kind kind numbers) key ≡ position (is_of (series_key kind key)) (all_series numbers stored)
      number-found kind key = agree.found kind key ∙ sym (position-order (series_key kind key))

      -- each series has a key
      pub key-there : (s : ℕ) (x : Stored) → slice_get stored s ≡ Some x → IsWithin numbers (spot x)
      key-there s x at = agree.within s (spot x) (slice_get-map spot stored s ∙ ap (option_map spot) at)
