-- A sample that finds no room leaves all cells as they are.
use Rattle.std.proofs.Common.{◌≡◌, ◌+◌, ◌-◌, ◌^◌, ◌<◌, ◌≤◌, Bool, true, false, cond, ◌%◌, List, [], ◌∷◌, None, Option, Some, IsSome, Result, Ok, Err, IfErr, refl, ap, sym, ◌∙◌, subst, arith, nat_lt}
use Rattle.std.specs.Prelude.{ℤ, MatchResult, OnOk, OnErr, IsErr, ◌↔◌}
use Rattle.std.specs.Map.{keys_of}
use Rattle.std.specs.List.{IsDistinct}
use Rattle.std.proofs.lemmas.Bool.{false≢true, ltb-false, le-ltb}
use Rattle.metrics_names.specs.Names.{KeyParts, key_eq}
use Rattle.metrics_names.specs.Equality.{key_eq-Decides}
use Rattle.metrics.specs.declared.error.Error.{Error}
use Rattle.metrics.specs.declared.error.Error.TheVariants.{Memory, CountFull}
use Rattle.metrics_storage.specs.Histogram.{Distribution, with_samples}
use Rattle.metrics_registry.specs.declared.generation.Counted.{Counted}
use Rattle.metrics_registry.specs.Held.{Registry, held, IsCellOf, Sets}
use Rattle.metrics_exporter.specs.Stepping.{new_counted, has_room, TakesSample}
use Rattle.metrics_exporter.proofs.EntryLemmas.{same-entries}

-- ---- one cell

-- a cell that a sample was added to, or not
pub takes-sample : (sample : ℤ) (old new : Counted Distribution) (r : Result (Unit {0}) Error)
    → MatchResult r (λ _. new.inner ≡ with_samples (sample ∷ []) old.inner) (λ e. (e ≡ CountFull) × (new.inner ≡ old.inner))
    → (IsErr r ↔ (2 ^ 64 - 1 < old.inner.count + 1)) → OnOk r (new.generation ≡ (old.generation + 1) % 2 ^ 64) → OnErr r (new.generation ≡ old.generation)
    → TakesSample sample old r new
takes-sample sample old new (Ok done) step refused raised stays = (λ i. record { inner = step i; generation = raised i }, go (nat_lt old.inner.count (2 ^ 64 - 1)) refl)
  where
    go : (b : Bool) → nat_lt old.inner.count (2 ^ 64 - 1) ≡ b → b ≡ true
    go true e = refl
    go false e = absurd (false≢true (refused.1 (let h : 2 ^ 64 - 1 ≤ old.inner.count = ltb-false old.inner.count (2 ^ 64 - 1) e in let g : 2 ^ 64 - 1 < old.inner.count + 1 = omega (arith, h) in g)))
takes-sample sample old new (Err x) step refused raised stays =
    (λ i. record { inner = step.1 i; generation = stays i }, step.0, le-ltb old.inner.count (2 ^ 64 - 1) (let g : 2 ^ 64 - 1 < old.inner.count + 1 = refused.0 refl in omega (arith, g)))

-- ---- all cells

module _ (sample : ℤ) (key : KeyParts) (empty : Distribution) (none : empty.count ≡ 0) (old new : List (KeyParts × Counted Distribution)) (before after : Counted Distribution)
    (sets : Sets key_eq key (Some after) old new) (keys : IsSome (held key_eq old key) → keys_of new ≡ keys_of old) (once : IsDistinct key_eq (keys_of old)) where
  unchanged : (cell : Counted Distribution) → held key_eq old key ≡ Some cell → after ≡ cell → new ≡ old
  unchanged cell found same =
      let P : Option (Counted Distribution) → Type 0 = λ o. IsSome o in
      same-entries key_eq (λ k. (key_eq-Decides k k).1 refl) (λ a b. (key_eq-Decides a b).0) old new (keys (subst P (sym found) refl)) once (λ q. sets q ∙ go q (key_eq key q) refl)
    where
      go : (q : KeyParts) (b : Bool) → key_eq key q ≡ b → cond b (Some after) (held key_eq old q) ≡ held key_eq old q
      go q true e = ap Some same ∙ sym found ∙ ap (held key_eq old) ((key_eq-Decides key q).0 e)
      go q false e = refl

  -- a cell that is full was held before
  refused-at : (found : Option (Counted Distribution)) → held key_eq old key ≡ found → IsCellOf (λ c. c ≡ new_counted empty) found before → (after ≡ before) → has_room (Some before) ≡ false
      → (has_room found ≡ false) × (new ≡ old)
  refused-at None is cell same full =
      absurd (false≢true (sym full ∙ (ap (λ c. has_room (Some c)) cell ∙ ap (λ n. nat_lt n (2 ^ 64 - 1)) none)))
  refused-at (Some c) is cell same full = (ap (λ d. has_room (Some d)) (sym cell) ∙ full, unchanged c is (same ∙ cell))

  pub sample-refused : (r : Result (Unit {0}) Error) → IsCellOf (λ c. c ≡ new_counted empty) (held key_eq old key) before → TakesSample sample before r after
      → IfErr r (λ e. (e ≡ cond (has_room (held key_eq old key)) Memory CountFull) × (new ≡ old))
  sample-refused (Ok done) cell takes = tt
  sample-refused (Err x) cell takes =
      let full = refused-at (held key_eq old key) refl cell takes.0 takes.2 in
      (takes.1 ∙ sym (ap (λ b. cond b Memory CountFull) full.0), full.1)

-- two registries that show the same are one
pub same-registry : {S K C G H : Type 0} (r s : Registry S K C G H) → r.storage ≡ s.storage → r.count ≡ s.count → r.counters ≡ s.counters → r.gauges ≡ s.gauges → r.histograms ≡ s.histograms → r ≡ s
same-registry r s e f g h k = λ i. record { storage = e i; count = f i; counters = g i; gauges = h i; histograms = k i }

-- the same of whole registries
pub registry-refused : (r : Result (Unit {0}) Error) (why : Error) (A B : Type 0) → (A → B) → IfErr r (λ e. (e ≡ why) × A) → IfErr r (λ e. (e ≡ why) × B)
registry-refused (Ok done) why A B f h = tt
registry-refused (Err x) why A B f h = (h.0, f h.1)
