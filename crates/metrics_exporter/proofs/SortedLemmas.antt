-- The keys of all kinds, in composite key order.
use Rattle.std.proofs.Common.{◌≡◌, ℕ, zero, suc, ◌+◌, ◌<◌, Bool, true, false, cond, List, [], ◌∷◌, ◌++◌, map, length, get_or, Option, None, Some, IsSome, refl, ap, sym, ◌∙◌, subst, arith, Contains, inl, inr, append_assoc, append-nil}
use Rattle.std.specs.Prelude.{option_map, ◌&&◌}
use Rattle.std.specs.List.{IsDistinct, AllByRecursion}
use Rattle.std.specs.List.Sorted.{IsSorted, IsStrictlySortedBy}
use Rattle.std.specs.Map.{keys_of}
use Rattle.std.specs.Cmp.{IsTotalOrder, IsEquivalence}
use Rattle.std.specs.Ordering.{is_lt, is_eq, ordering_reverse, eq_by_cmp}
use Rattle.std.specs.declared.cmp.Ordering.{Ordering}
use Rattle.std.specs.declared.cmp.Ordering.TheVariants.{Less, Equal, Greater}
use Rattle.std.proofs.lemmas.Bool.{false≢true}
use Rattle.std.proofs.lemmas.List.Elements.{Contains-append_left, Contains-append_right, Contains-append_cases}
use Rattle.std.proofs.lemmas.Map.Keys.{IsDistinct-head, IsDistinct-tail, IsDistinct-cons, apart_from_distinct, sorted_from_all_adjacent}
use Rattle.metrics_names.specs.declared.kind.MetricKind.{MetricKind}
use Rattle.metrics_names.specs.declared.kind.MetricKind.TheVariants.{Counter, Gauge, Histogram}
use Rattle.metrics_names.specs.Names.{KeyParts, SeriesKey, kind_eq, key_eq, series_key_eq, series_key_cmp}
use Rattle.metrics_names.specs.Equality.{key_exact, key_same, key_eq-Decides}
use Rattle.metrics_registry.specs.Held.{held}
use Rattle.metrics_exporter.specs.Exporting.{count, level, samples, IsHeldNumber}
use Rattle.metrics_exporter.specs.Kept.{SeriesRegistry, cells_of}
use Rattle.metrics_exporter.specs.Gathering.{cell_in}

abbrev series : MetricKind → KeyParts → SeriesKey
series kind key = record { kind = kind; key = key }

-- ---- the order

module _ (total : IsTotalOrder series_key_cmp) (ties : (a b : SeriesKey) → series_key_eq a b ≡ eq_by_cmp series_key_cmp a b) where
  -- of two keys that differ the one that isn't after the other is before it
  before : (a b : SeriesKey) → is_lt (series_key_cmp b a) ≡ false → series_key_eq a b ≡ false → series_key_cmp a b ≡ Less
  before a b not_after differ = go (series_key_cmp b a) not_after (total.antisymm a b)
    where
      go : (r : Ordering) → is_lt r ≡ false → series_key_cmp a b ≡ ordering_reverse r → series_key_cmp a b ≡ Less
      go Less h e = absurd (false≢true (sym h))
      go Equal h e = absurd (false≢true (sym differ ∙ (ties a b ∙ ap is_eq e)))
      go Greater h e = e

  pub strictly_sorted : (ks : List SeriesKey) → IsSorted series_key_cmp ks → IsDistinct series_key_eq ks → IsStrictlySortedBy series_key_cmp ks
  strictly_sorted ks up apart =
      let d : SeriesKey = series Counter (record { name = []; labels = [] }) in
      sorted_from_all_adjacent total ks d (λ k small. before (get_or ks k d) (get_or ks (k + 1) d) (up k d (omega arith) small) (apart_from_distinct series_key_eq ks k (k + 1) d apart (omega arith) small))

pub flips : (a b : SeriesKey) → series_key_eq a b ≡ series_key_eq b a
flips a b = go (series_key_eq a b) (series_key_eq b a) refl refl
  where
    go : (p q : Bool) → series_key_eq a b ≡ p → series_key_eq b a ≡ q → p ≡ q
    go true true e f = refl
    go false false e f = refl
    go true false e f = absurd (false≢true (sym f ∙ (ap (series_key_eq b) (key_exact a b e) ∙ key_same b)))
    go false true e f = absurd (false≢true (sym e ∙ (ap (series_key_eq a) (key_exact b a f) ∙ key_same a)))

pub key_laws : IsEquivalence series_key_eq
key_laws = record { refl = key_same; symm = flips; congr = λ x y z e. ap (λ w. series_key_eq w z) (key_exact x y e) }

and_false : (b : Bool) → (b && false) ≡ false
and_false true = refl
and_false false = refl

all-append : (P : SeriesKey → Type 0) (xs ys : List SeriesKey) → AllByRecursion P xs → AllByRecursion P ys → AllByRecursion P (xs ++ ys)
all-append P [] ys h g = g
all-append P (x ∷ xs) ys h g = (h.0, all-append P xs ys h.1 g)

-- ---- the keys of one kind

module _ {C : Type 0} (kind : MetricKind) where
  abbrev keys : List (KeyParts × C) → List SeriesKey
  keys es = map (λ e. series kind e.0) es

  some-here : (b : Bool) (c : C) (o : Option C) → b ≡ true → IsSome (cond b (Some c) o)
  some-here true c o e = refl
  some-here false c o e = absurd (false≢true e)

  some-later : (b : Bool) (c : C) (o : Option C) → IsSome o → IsSome (cond b (Some c) o)
  some-later true c o some = refl
  some-later false c o some = some

  contained : (es : List (KeyParts × C)) (s : SeriesKey) (k : ℕ) → k < length (keys es) → get_or (keys es) k s ≡ s → (s.kind ≡ kind) × IsSome (held key_eq es s.key)
  contained [] s k small is = absurd (omega (arith, small))
  contained (e ∷ es) s zero small is =
      (sym (ap (λ (t : SeriesKey). t.kind) is), some-here (key_eq s.key e.0) e.1 (held key_eq es s.key) ((key_eq-Decides s.key e.0).1 (sym (ap (λ (t : SeriesKey). t.key) is))))
  contained (e ∷ es) s (suc k) small is =
      let r = contained es s k (omega (arith, small)) is in
      (r.0, some-later (key_eq s.key e.0) e.1 (held key_eq es s.key) r.1)

  contains-cons : (e : KeyParts × C) (es : List (KeyParts × C)) (key : KeyParts) → (IsSome (held key_eq es key) → Contains (keys es) (series kind key))
      → (b : Bool) → key_eq key e.0 ≡ b → IsSome (cond b (Some e.1) (held key_eq es key)) → Contains (keys (e ∷ es)) (series kind key)
  contains-cons e es key rest true t some = (zero, omega arith, ap (series kind) (sym ((key_eq-Decides key e.0).0 t)))
  contains-cons e es key rest false f some = let r = rest some in (suc r.0, omega (arith, r.1), r.2)

  contains : (es : List (KeyParts × C)) (key : KeyParts) → IsSome (held key_eq es key) → Contains (keys es) (series kind key)
  contains [] key some = absurd (false≢true some)
  contains (e ∷ es) key some = contains-cons e es key (contains es key) (key_eq key e.0) refl some

  differ-later : (k : KeyParts) (es : List (KeyParts × C)) → AllByRecursion (λ q. key_eq k q ≡ false) (keys_of es) → AllByRecursion (λ y. series_key_eq (series kind k) y ≡ false) (keys es)
  differ-later k [] h = tt
  differ-later k (e ∷ es) h = (ap (λ b. kind_eq kind kind && b) h.0 ∙ and_false (kind_eq kind kind), differ-later k es h.1)

  -- of another kind
  differ-kind : (other : MetricKind) (k : KeyParts) (es : List (KeyParts × C)) → kind_eq other kind ≡ false → AllByRecursion (λ y. series_key_eq (series other k) y ≡ false) (keys es)
  differ-kind other k [] h = tt
  differ-kind other k (e ∷ es) h = (ap (λ b. b && key_eq k e.0) h, differ-kind other k es h)

  distinct-more : (es : List (KeyParts × C)) (rest : List SeriesKey) → IsDistinct key_eq (keys_of es) → IsDistinct series_key_eq rest
      → ((k : KeyParts) → AllByRecursion (λ y. series_key_eq (series kind k) y ≡ false) rest) → IsDistinct series_key_eq (keys es ++ rest)
  distinct-more [] rest apart h g = h
  distinct-more (e ∷ es) rest apart h g =
      IsDistinct-cons series_key_eq (series kind e.0) (keys es ++ rest)
      (all-append (λ y. series_key_eq (series kind e.0) y ≡ false) (keys es) rest (differ-later e.0 es (IsDistinct-head key_eq e.0 (keys_of es) apart)) (g e.0))
      (distinct-more es rest (IsDistinct-tail key_eq e.0 (keys_of es) apart) h g)

-- ---- the keys of all kinds

some-map : {A B : Type 0} (f : A → B) (o : Option A) → IsSome o → IsSome (option_map f o)
some-map f None h = absurd (false≢true h)
some-map f (Some a) h = refl

some-from_map : {A B : Type 0} (f : A → B) (o : Option A) → IsSome (option_map f o) → IsSome o
some-from_map f None h = absurd (false≢true h)
some-from_map f (Some a) h = refl

pub none-distinct : IsDistinct series_key_eq []
unfolding IsDistinct
none-distinct = tt

module _ (r : SeriesRegistry) where
  abbrev cs : List SeriesKey
  cs = keys Counter r.counters

  abbrev gs : List SeriesKey
  gs = keys Gauge r.gauges

  abbrev hs : List SeriesKey
  hs = keys Histogram r.histograms

  abbrev SomeAt : SeriesKey → Type 0
  SomeAt s = IsSome (cells_of r s)

  at-kind : (s : SeriesKey) (kind : MetricKind) → s.kind ≡ kind → SomeAt (series kind s.key) → SomeAt s
  at-kind s kind e some = subst (λ k. SomeAt (series k s.key)) (sym e) some

  from-counters : (s : SeriesKey) → Contains cs s → SomeAt s
  from-counters s (k, small, is) = let h = contained Counter r.counters s k small is in at-kind s Counter h.0 (some-map (cell_in count) _ h.1)

  from-gauges : (s : SeriesKey) → Contains gs s → SomeAt s
  from-gauges s (k, small, is) = let h = contained Gauge r.gauges s k small is in at-kind s Gauge h.0 (some-map (cell_in level) _ h.1)

  from-histograms : (s : SeriesKey) → Contains hs s → SomeAt s
  from-histograms s (k, small, is) = let h = contained Histogram r.histograms s k small is in at-kind s Histogram h.0 (some-map (cell_in samples) _ h.1)

  pub from-all : (s : SeriesKey) → Contains (cs ++ gs ++ hs) s → SomeAt s
  from-all s h = elim (Contains-append_cases (cs ++ gs) hs s h) [
    | inl g ↦ elim (Contains-append_cases cs gs s g) [
      | inl f ↦ from-counters s f
      | inr f ↦ from-gauges s f
    ]
    | inr g ↦ from-histograms s g
  ]

  pub in-all : (kind : MetricKind) (key : KeyParts) → SomeAt (series kind key) → Contains (cs ++ gs ++ hs) (series kind key)
  in-all Counter key some = Contains-append_left (cs ++ gs) hs _ (Contains-append_left cs gs _ (contains Counter r.counters key (some-from_map (cell_in count) _ some)))
  in-all Gauge key some = Contains-append_left (cs ++ gs) hs _ (Contains-append_right cs gs _ (contains Gauge r.gauges key (some-from_map (cell_in level) _ some)))
  in-all Histogram key some = Contains-append_right (cs ++ gs) hs _ (contains Histogram r.histograms key (some-from_map (cell_in samples) _ some))

  pub distinct-all : IsDistinct key_eq (keys_of r.counters) → IsDistinct key_eq (keys_of r.gauges) → IsDistinct key_eq (keys_of r.histograms) → IsDistinct series_key_eq (cs ++ gs ++ hs)
  distinct-all c g h =
      let P : List SeriesKey → Type 0 = IsDistinct series_key_eq in
      let third : P hs = subst P (append-nil hs) (distinct-more Histogram r.histograms [] h none-distinct (λ k. tt)) in
      let second : P (gs ++ hs) = distinct-more Gauge r.gauges hs g third (λ k. differ-kind Histogram Gauge k r.histograms refl) in
      subst P (sym (append_assoc cs gs hs))
      (distinct-more Counter r.counters (gs ++ hs) c second
      (λ k. all-append (λ y. series_key_eq (series Counter k) y ≡ false) gs hs (differ-kind Gauge Counter k r.gauges refl) (differ-kind Histogram Counter k r.histograms refl)))

  -- all of them are the held series, each once
  pub held-by-all : IsDistinct key_eq (keys_of r.counters) → IsDistinct key_eq (keys_of r.gauges) → IsDistinct key_eq (keys_of r.histograms) → IsHeldNumber (cells_of r) (length (cs ++ gs ++ hs))
  held-by-all c g h = record {
    keys = cs ++ gs ++ hs;
    once = distinct-all c g h;
    held = λ s. (from-all s, in-all s.kind s.key);
    number = refl;
  }
