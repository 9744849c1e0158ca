-- The held series with their cells: gathered of all shards, in order, and read.
use Rattle.std.proofs.Common.{◌≡◌, ℕ, zero, suc, ◌<◌, Bool, true, false, cond, List, [], ◌∷◌, ◌++◌, map, length, get_or, Contains, Option, None, Some, is_some, refl, ap, sym, ◌∙◌, subst, arith, inl, inr}
use Rattle.std.specs.Prelude.{◌↔◌, option_map}
use Rattle.std.specs.List.{IsDistinct, AllByRecursion}
use Rattle.std.specs.List.Sorted.{IsPermutation, IsSorted}
use Rattle.std.specs.Map.{keys_of, lookup}
use Rattle.std.specs.Cmp.{IsTotalOrder}
use Rattle.std.specs.Ordering.{eq_by_cmp}
use Rattle.std.proofs.lemmas.Bool.{false≢true}
use Rattle.std.proofs.lemmas.List.{map-append}
use Rattle.std.proofs.lemmas.List.Elements.{Contains-append_cases}
use Rattle.std.proofs.lemmas.List.Sorted.{Contains-permutation, IsPermutation-sym, IsPermutation-map}
use Rattle.std.proofs.lemmas.Map.Keys.{IsDistinct-head, IsDistinct-tail, IsDistinct-IsPermutation}
use Rattle.std.proofs.lemmas.Map.Views.{Contains-from_lookup, IsSome-lookup_from_Contains}
use Rattle.metrics_names.specs.declared.kind.MetricKind.{MetricKind}
use Rattle.metrics_names.specs.declared.kind.MetricKind.TheVariants.{Counter, Gauge, Histogram}
use Rattle.metrics_names.specs.Names.{KeyParts, SeriesKey, key_eq, series_key_eq, series_key_cmp}
use Rattle.metrics_names.specs.Equality.{key_eq-Decides, key_exact}
use Rattle.metrics_registry.specs.declared.generation.Counted.{Counted}
use Rattle.metrics_registry.specs.Held.{held, entries_of}
use Rattle.metrics_registry.proofs.ShardLemmas.{map-length, map-get}
use Rattle.metrics_exporter.specs.Exporting.{Reading, count, level, samples, Cell, Cells, IsHeld, IsHeldNumber, HoldsSome}
use Rattle.metrics_exporter.specs.Kept.{SeriesRegistry, cells_of}
use Rattle.metrics_exporter.specs.declared.series.SeriesRef.{SeriesRef}
use Rattle.metrics_exporter.specs.Gathering.{series_at, series_shown, cell_shown, all_shown, Shard, walk_of, Seen, seen_by, all_seen, series_in, seen_in, IsWalk, AreGathered, AreSeen, cell_in}
use Rattle.metrics_exporter.specs.Readings.{KeyedReading, reading_in, all_read, AreReadings}
use Rattle.metrics_exporter.proofs.WalkLemmas.{walk-all}
use Rattle.metrics_exporter.proofs.SortedLemmas.{flips, key_laws, strictly_sorted, none-distinct, distinct-all, from-all, in-all}

turned : (a b : KeyParts) → key_eq a b ≡ false → key_eq b a ≡ false
turned a b h = go (key_eq b a) refl
  where
    go : (t : Bool) → key_eq b a ≡ t → key_eq b a ≡ false
    go false e = e
    go true e = absurd (false≢true (sym h ∙ (key_eq-Decides a b).1 (sym ((key_eq-Decides b a).0 e))))

held-later : {C : Type 0} (x : KeyParts × C) (all es : List (KeyParts × C)) → AllByRecursion (λ q. key_eq x.0 q ≡ false) (keys_of es) → AllByRecursion (λ e. held key_eq all e.0 ≡ Some e.1) es
    → AllByRecursion (λ e. held key_eq (x ∷ all) e.0 ≡ Some e.1) es
held-later x all [] h g = tt
held-later x all (e ∷ es) h g = (ap (λ b. cond b (Some x.1) (held key_eq all e.0)) (turned x.0 e.0 h.0) ∙ g.0, held-later x all es h.1 g.1)

-- if no key is there twice, the cell of each entry's key is the entry's
held-each : {C : Type 0} (es : List (KeyParts × C)) → IsDistinct key_eq (keys_of es) → AllByRecursion (λ e. held key_eq es e.0 ≡ Some e.1) es
held-each [] once = tt
held-each (x ∷ es) once = (
  ap (λ b. cond b (Some x.1) (held key_eq es x.0)) ((key_eq-Decides x.0 x.0).1 refl),
  held-later x es es (IsDistinct-head key_eq x.0 (keys_of es) once) (held-each es (IsDistinct-tail key_eq x.0 (keys_of es) once)),
)

contains-map : {A B : Type 0} (f : A → B) (xs : List A) (x : A) → Contains xs x → Contains (map f xs) (f x)
contains-map f xs x (k, small, is) = (k, omega (arith, small, map-length f xs), sym (map-get f xs k x) ∙ ap f is)

pub firsts-shown : (rows : List SeriesRef) → keys_of (all_seen rows) ≡ all_shown rows
firsts-shown [] = refl
firsts-shown (r ∷ rows) = ap (λ l. series_shown r ∷ l) (firsts-shown rows)

firsts-in : {C : Type 0} (kind : MetricKind) (read : C → Reading) (es : List (KeyParts × Counted C)) → keys_of (seen_in kind read es) ≡ series_in kind es
firsts-in kind read [] = refl
firsts-in kind read (e ∷ es) = ap (λ l. series_at kind e.0 ∷ l) (firsts-in kind read es)

module _ (r : SeriesRegistry) where
  abbrev IsRight : Seen → Type 0
  IsRight s = cells_of r s.0 ≡ Some s.1

  right : {C : Type 0} (kind : MetricKind) (read : C → Reading) (all : List (KeyParts × Counted C)) → ((k : KeyParts) → cells_of r (series_at kind k) ≡ option_map (cell_in read) (held key_eq all k))
      → (es : List (KeyParts × Counted C)) → AllByRecursion (λ e. held key_eq all e.0 ≡ Some e.1) es → (s : Seen) (k : ℕ) → k < length (seen_in kind read es) → get_or (seen_in kind read es) k s ≡ s → IsRight s
  right kind read all at [] h s k small is = absurd (omega (arith, small))
  right kind read all at (e ∷ es) h s zero small is =
      ap (λ (t : Seen). cells_of r t.0) (sym is) ∙ at e.0 ∙ ap (option_map (cell_in read)) h.0 ∙ ap (λ (t : Seen). Some t.1) is
  right kind read all at (e ∷ es) h s (suc k) small is = right kind read all at es h.1 s k (omega (arith, small)) is

  abbrev cs : List Seen
  cs = seen_in Counter count r.counters

  abbrev gs : List Seen
  gs = seen_in Gauge level r.gauges

  abbrev hs : List Seen
  hs = seen_in Histogram samples r.histograms

  firsts-all : keys_of (cs ++ gs ++ hs) ≡ series_in Counter r.counters ++ series_in Gauge r.gauges ++ series_in Histogram r.histograms
  firsts-all =
      let f : Seen → SeriesKey = λ s. s.0 in
      map-append f (cs ++ gs) hs ∙ ap (λ l. l ++ keys_of hs) (map-append f cs gs)
      ∙ (λ i. (firsts-in Counter count r.counters i ++ firsts-in Gauge level r.gauges i) ++ firsts-in Histogram samples r.histograms i)

  -- all of them in another order
  pub walked : (seen : List Seen) → IsPermutation seen (cs ++ gs ++ hs)
      → IsDistinct key_eq (keys_of r.counters) → IsDistinct key_eq (keys_of r.gauges) → IsDistinct key_eq (keys_of r.histograms) → IsWalk (cells_of r) seen
  walked seen moved c g h =
      let f : Seen → SeriesKey = λ s. s.0 in
      let P : List SeriesKey → Type 0 = IsPermutation (keys_of seen) in
      let there : P (series_in Counter r.counters ++ series_in Gauge r.gauges ++ series_in Histogram r.histograms) = subst P firsts-all (IsPermutation-map f _ _ moved) in
      let back = IsPermutation-sym _ _ there in
      record {
        once = IsDistinct-IsPermutation series_key_eq flips _ (keys_of seen) back (distinct-all r c g h);
        held = λ s. (
          (λ is. from-all r s (Contains-permutation (keys_of seen) _ s there is)),
          (λ some. Contains-permutation _ (keys_of seen) s back (in-all r s.kind s.key some)),
        );
        own = λ x is. among x (Contains-permutation seen (cs ++ gs ++ hs) x moved is);
      }
    where
      among : (s : Seen) → Contains (cs ++ gs ++ hs) s → IsRight s
      among s there = elim (Contains-append_cases (cs ++ gs) hs s there) [
        | inl k ↦ elim (Contains-append_cases cs gs s k) [
          | inl j ↦ right Counter count r.counters (λ q. refl) r.counters (held-each r.counters c) s j.0 j.1 j.2
          | inr j ↦ right Gauge level r.gauges (λ q. refl) r.gauges (held-each r.gauges g) s j.0 j.1 j.2
        ]
        | inr j ↦ right Histogram samples r.histograms (λ q. refl) r.histograms (held-each r.histograms h) s j.0 j.1 j.2
      ]

-- a walk over all shards
pub walked-shards : (r : SeriesRegistry) (shards : List Shard) → entries_of (map (λ (s : Shard). s.counters) shards) ≡ r.counters → entries_of (map (λ (s : Shard). s.gauges) shards) ≡ r.gauges
    → entries_of (map (λ (s : Shard). s.histograms) shards) ≡ r.histograms → IsDistinct key_eq (keys_of r.counters) → IsDistinct key_eq (keys_of r.gauges) → IsDistinct key_eq (keys_of r.histograms)
    → IsWalk (cells_of r) (walk_of shards)
walked-shards r shards e1 e2 e3 c g h =
    walked r (walk_of shards)
    (walk-all (λ s. s.counters) (λ s. s.gauges) (λ s. s.histograms) (λ e. (series_at Counter e.0, cell_in count e.1)) (λ e. (series_at Gauge e.0, cell_in level e.1)) (λ e. (series_at Histogram e.0, cell_in samples e.1))
    shards r.counters r.gauges r.histograms e1 e2 e3) c g h

-- the cell of each series is the one that a walk finds
pub walk-at : (cells : Cells) (seen : List Seen) → IsWalk cells seen → (s : SeriesKey) → cells s ≡ lookup (series_key_eq s) seen
walk-at cells seen walk s = go (lookup (series_key_eq s) seen) refl (cells s) refl
  where
    go : (o : Option Cell) → lookup (series_key_eq s) seen ≡ o → (c : Option Cell) → cells s ≡ c → cells s ≡ lookup (series_key_eq s) seen
    go (Some x) is c at = walk.own (s, x) (Contains-from_lookup key_exact s x seen is) ∙ sym is
    go None is None at = at ∙ sym is
    go None is (Some x) at = absurd (false≢true (sym (ap is_some is) ∙ IsSome-lookup_from_Contains key_laws s seen ((walk.held s).1 (ap is_some at))))

-- rows that were gathered of all shards
pub seen-gathered : (cells : Cells) (rows : List SeriesRef) → IsWalk cells (all_seen rows) → AreGathered cells rows
seen-gathered cells rows walk =
    let P : List SeriesKey → Type 0 = λ l. IsDistinct series_key_eq l in
    let Q : SeriesKey → List SeriesKey → Type 0 = λ s l. Contains l s ↔ IsHeld cells s in
    record {
      once = subst P (firsts-shown rows) walk.once;
      held = λ s. subst (Q s) (firsts-shown rows) (walk.held s);
      own = λ x is. walk.own (seen_by x) (contains-map seen_by rows x is);
    }

-- the same rows in order
pub gathered-sorted : IsTotalOrder series_key_cmp → ((a b : SeriesKey) → series_key_eq a b ≡ eq_by_cmp series_key_cmp a b)
    → (cells : Cells) (rows sorted : List SeriesRef) → AreGathered cells rows → IsPermutation rows sorted → IsSorted series_key_cmp (all_shown sorted) → AreSeen cells sorted
gathered-sorted total ties cells rows sorted all moved up =
    let shown : IsPermutation (all_shown rows) (all_shown sorted) = IsPermutation-map series_shown _ _ moved in
    let once : IsDistinct series_key_eq (all_shown sorted) = IsDistinct-IsPermutation series_key_eq flips (all_shown rows) (all_shown sorted) shown all.once in
    record {
      series = record {
        ascending = strictly_sorted total ties (all_shown sorted) up once;
        held = λ s. (
          (λ there. (all.held s).0 (Contains-permutation (all_shown sorted) (all_shown rows) s (IsPermutation-sym _ _ shown) there)),
          (λ some. Contains-permutation (all_shown rows) (all_shown sorted) s shown ((all.held s).1 some)),
        );
      };
      once = once;
      own = λ x there. all.own x (Contains-permutation sorted rows x (IsPermutation-sym _ _ moved) there);
    }

-- what they have
pub gathered-read : (cells : Cells) (rows : List SeriesRef) → AreGathered cells rows → AreReadings cells (all_read rows)
gathered-read cells rows all =
    let same = sym (firsts-read rows) in
    record {
      once = subst (IsDistinct series_key_eq) same all.once;
      held = λ s. subst (λ ks. Contains ks s ↔ IsHeld cells s) same (all.held s);
      readings = each rows (λ x there. ap (option_map (λ (c : Cell). c.reading)) (all.own x there));
    }
  where
    firsts-read : (xs : List SeriesRef) → map (λ (t : KeyedReading). t.0) (all_read xs) ≡ all_shown xs
    firsts-read [] = refl
    firsts-read (x ∷ xs) = ap (λ l. series_shown x ∷ l) (firsts-read xs)

    each : (xs : List SeriesRef) → ((x : SeriesRef) → Contains xs x → reading_in cells (series_shown x) ≡ Some (cell_shown x.cell).reading)
        → AllByRecursion (λ t. reading_in cells t.0 ≡ Some t.1) (all_read xs)
    each [] h = tt
    each (x ∷ xs) h = (h x (0, omega arith, refl), each xs (λ y there. h y (suc there.0, omega (arith, there.1), there.2)))

-- if no series is held there is none to gather
pub none-gathered : (cells : Cells) (n : ℕ) → IsHeldNumber cells n → n ≡ 0 → AreGathered cells []
none-gathered cells n number none = record {
  once = none-distinct;
  held = λ s. (
    (λ there. absurd (no-place s there)),
    (λ some. absurd (no-place s (subst (λ ks. Contains ks s) (empty number.keys (sym number.number ∙ none)) ((number.held s).1 some)))),
  );
  own = λ x there. absurd (omega (arith, there.1));
}
  where
    no-place : (s : SeriesKey) → Contains [] s → ⊥
    no-place s (k, small, is) = omega (arith, small)

    empty : (ks : List SeriesKey) → length ks ≡ 0 → ks ≡ []
    empty [] e = refl
    empty (k ∷ ks) e = absurd (omega (arith, e))

-- if there are some, one is held
pub some-held : (cells : Cells) (n : ℕ) → IsHeldNumber cells n → 0 < n → HoldsSome cells
some-held cells n number some = first number.keys (λ s. (number.held s).0) (omega (arith, some, number.number))
  where
    first : (ks : List SeriesKey) → ((s : SeriesKey) → Contains ks s → IsHeld cells s) → 0 < length ks → HoldsSome cells
    first [] f small = absurd (omega (arith, small))
    first (k ∷ ks) f small = (k, f k (0, omega arith, refl))
