-- Each listed series has one row.
use Rattle.std.proofs.Common.{◌≡◌, ◌∙◌, ◌+◌, ℕ, zero, suc, Bool, true, false, cond, List, [], ◌∷◌, map, get_or, Contains, IsSome, Option, Some, None, refl, ap, sym, subst, arith}
use Rattle.std.specs.Prelude.{IsPermutation, option_map}
use Rattle.std.specs.List.{AllByRecursion, All, IsDistinct, dedup}
use Rattle.std.specs.List.Sorted.{IsSorted, IsStrictlySortedBy}
use Rattle.std.specs.Map.{lookup}
use Rattle.std.specs.Cmp.{IsTotalOrder, IsEquivalence, eq_by_cmp_equiv}
use Rattle.std.specs.Ordering.{nat_cmp, ordering_then, ordering_reverse, eq_by_cmp, is_eq, is_lt}
use Rattle.std.specs.declared.cmp.Ordering.{Ordering}
use Rattle.std.specs.declared.cmp.Ordering.TheVariants.{Less, Equal, Greater}
use Rattle.std.specs.Cmp.Lexicographic.{slice_cmp}
use Rattle.std.specs.FinMap.{slice_cmp-IsAntisymmetric}
use Rattle.std.proofs.lemmas.Bool.{false≢true}
use Rattle.std.proofs.lemmas.Cmp.{tied_itself}
use Rattle.std.proofs.lemmas.List.Elements.{All-from_recursion, recursion_from_All}
use Rattle.std.proofs.lemmas.List.Filters.{All-dedup}
use Rattle.std.proofs.lemmas.List.Kept.{Any-dedup, Contains-from_dedup}
use Rattle.std.proofs.lemmas.List.Sorted.{All-permutation, Contains-permutation, IsPermutation-sym}
use Rattle.std.proofs.lemmas.Map.Keys.{IsDistinct-from_sorted, IsDistinct-head, IsDistinct-tail, IsDistinct-cons}
use Rattle.std.proofs.lemmas.Map.Lookups.{exact_bytes, exact_pairs}
use Rattle.metrics_names.specs.declared.kind.MetricKind.{MetricKind}
use Rattle.metrics_names.specs.declared.kind.MetricKind.TheVariants.{Counter, Gauge, Histogram}
use Rattle.metrics_names.specs.Names.{KeyParts, LabelParts, SeriesKey, kind_number, label_cmp, key_cmp, series_key_eq}
use Rattle.metrics_names.specs.Equality.{series_key_eq-Decides, key_exact}
use Rattle.metrics_exporter.specs.Exporting.{Reading, Cell, Cells}
use Rattle.metrics_exporter.specs.Gathering.{series_at}
use Rattle.metrics_exporter.specs.Readings.{KeyedReading, AreReadings, AreOnce, cells_of_readings, reading_in}
use Rattle.metrics_prometheus.specs.declared.row.ShownRow.{ShownRow}
use Rattle.metrics_exposition.specs.Naming.{Display}
use Rattle.metrics_prometheus.specs.Exposition.{Row, row_of, row_cmp}
use Rattle.metrics_prometheus.specs.Rows.{row_shown, pair_shown, pair_of, keyed_shown}
use Rattle.metrics_exposition.proofs.PairLemmas.{each-in, in-first, in-later, Pairs, pairs-places}
use Rattle.metrics_prometheus.proofs.RowLemmas.{map-length, map-get}
use Rattle.metrics_prometheus.proofs.WrittenLemmas.{row_total}
use Rattle.metrics_exposition.proofs.OrderLemmas.{names}
use Rattle.metrics_exposition.proofs.LabelLemmas.{shown-sorted}

module _ {A B : Type 0} (f : A → B) where
  pub mapped : (xs : List A) (x : A) → Contains xs x → Contains (map f xs) (f x)
  mapped xs x (k, small, is) = (k, omega (arith, small, map-length f xs), map-get f xs k (f x) x small ∙ ap f is)

  pub unmapped : (xs : List A) (y : B) → Contains (map f xs) y → (x : A) × Contains xs x × (f x ≡ y)
  unmapped [] y (k, small, is) = absurd (omega (arith, small))
  unmapped (x ∷ xs) y (zero, small, is) = (x, in-first x xs, is)
  unmapped (x ∷ xs) y (suc k, small, is) = let r = unmapped xs y (k, omega (arith, small), is) in (r.0, in-later x xs r.0 r.1, r.2)

-- ---- rows that are equal in their order are of one series

pub then-equal : (o p : Ordering) → ordering_then o p ≡ Equal → (o ≡ Equal) × (p ≡ Equal)
then-equal Less p e = absurd (let g : Less ≡ Equal = e in cc)
then-equal Equal p e = (refl, e)
then-equal Greater p e = absurd (let g : Greater ≡ Equal = e in cc)

pub kind-from : (a b : MetricKind) → nat_cmp (kind_number a) (kind_number b) ≡ Equal → a ≡ b
kind-from Counter Counter e = refl
kind-from Gauge Gauge e = refl
kind-from Histogram Histogram e = refl
kind-from Counter Gauge e = absurd (let g : Less ≡ Equal = e in cc)
kind-from Counter Histogram e = absurd (let g : Less ≡ Equal = e in cc)
kind-from Gauge Counter e = absurd (let g : Greater ≡ Equal = e in cc)
kind-from Gauge Histogram e = absurd (let g : Less ≡ Equal = e in cc)
kind-from Histogram Counter e = absurd (let g : Greater ≡ Equal = e in cc)
kind-from Histogram Gauge e = absurd (let g : Greater ≡ Equal = e in cc)

labels-from : (xs ys : List LabelParts) → slice_cmp label_cmp xs ys ≡ Equal → xs ≡ ys
labels-from = slice_cmp-IsAntisymmetric (exact_pairs names names exact_bytes exact_bytes)

key-from : (a b : KeyParts) → key_cmp a b ≡ Equal → a ≡ b
key-from a b e =
    let parts = then-equal (names a.name b.name) (slice_cmp label_cmp a.labels b.labels) e in
    let P : List ℕ → List LabelParts → KeyParts = λ n l. record { name = n; labels = l } in
    ap (λ n. P n a.labels) (exact_bytes a.name b.name parts.0) ∙ ap (P b.name) (labels-from a.labels b.labels parts.1)

pub series-from : (a b : Row) → row_cmp a b ≡ Equal → series_at a.kind a.key ≡ series_at b.kind b.key
series-from a b e =
    let first = then-equal (names a.name b.name) _ e in
    let second = then-equal (nat_cmp (kind_number a.kind) (kind_number b.kind)) _ first.1 in
    let third = then-equal (slice_cmp label_cmp a.labels b.labels) _ second.1 in
    ap (λ k. series_at k a.key) (kind-from a.kind b.kind second.0) ∙ ap (series_at b.kind) (key-from a.key b.key third.1)

is-equal : (o : Ordering) → is_eq o ≡ true → o ≡ Equal
is-equal Less e = absurd (let g : false ≡ true = e in cc)
is-equal Equal e = refl
is-equal Greater e = absurd (let g : false ≡ true = e in cc)

strict-pairs : {X : Type 0} (R : X → X → Ordering) (xs : List X) → IsStrictlySortedBy R xs → Pairs (λ a b. R a b ≡ Less) xs
unfolding IsStrictlySortedBy
strict-pairs R [] up = tt
strict-pairs R (x ∷ xs) up = (up.0, strict-pairs R xs up.1)

pub sorted-strictly : {X : Type 0} (R : X → X → Ordering) → IsTotalOrder R → (xs : List X) → IsStrictlySortedBy R xs → IsSorted R xs
sorted-strictly R total xs up k d first small =
    ap is_lt (total.antisymm (get_or xs (k + 1) d) (get_or xs k d) ∙ ap ordering_reverse (pairs-places (λ a b. R a b ≡ Less) xs (strict-pairs R xs up) k (k + 1) d (omega arith) small))

none-once : IsDistinct series_key_eq []
unfolding IsDistinct
none-once = tt

-- ---- the rows

abbrev key_of : ShownRow → SeriesKey
key_of r = (keyed_shown r).0

abbrev keyed_pair : Row × Reading → KeyedReading
keyed_pair p = (series_at p.0.kind p.0.key, p.1)

keyed-pairs : (rows : List ShownRow) → map keyed_shown rows ≡ map keyed_pair (map pair_shown rows)
keyed-pairs [] = refl
keyed-pairs (r ∷ rows) = ap (λ l. keyed_shown r ∷ l) (keyed-pairs rows)

pairs-keyed : (display : Display) (keyed : List KeyedReading) → map keyed_pair (map (pair_of display) keyed) ≡ keyed
pairs-keyed display [] = refl
pairs-keyed display (t ∷ keyed) = ap (λ l. t ∷ l) (pairs-keyed display keyed)

module _ (display : Display) where
  abbrev IsOwn : ShownRow → Type 0
  IsOwn r = pair_shown r ≡ pair_of display (keyed_shown r)

  abbrev IsPair : Row × Reading → Type 0
  IsPair p = p ≡ pair_of display (keyed_pair p)

  pairs-own : (keyed : List KeyedReading) → AllByRecursion IsPair (map (pair_of display) keyed)
  pairs-own [] = tt
  pairs-own (t ∷ keyed) = (refl, pairs-own keyed)

  rows-own : (rows : List ShownRow) → AllByRecursion IsPair (map pair_shown rows) → AllByRecursion IsOwn rows
  rows-own [] h = tt
  rows-own (r ∷ rows) h = (h.0, rows-own rows h.1)

  own-map : (rows : List ShownRow) → AllByRecursion IsOwn rows → map pair_shown rows ≡ map (pair_of display) (map keyed_shown rows)
  own-map [] h = refl
  own-map (r ∷ rows) h = ap (λ p. p ∷ map pair_shown rows) h.0 ∙ ap (λ l. pair_of display (keyed_shown r) ∷ l) (own-map rows h.1)

  module _ (R : ShownRow → ShownRow → Ordering) (order : (a b : ShownRow) → R a b ≡ row_cmp (row_shown a) (row_shown b)) where
    -- rows that aren't equal are of different series
    apart : (x y : ShownRow) → IsOwn x → IsOwn y → eq_by_cmp R x y ≡ false → series_key_eq (key_of x) (key_of y) ≡ false
    apart x y ox oy differ = go (series_key_eq (key_of x) (key_of y)) refl
      where
        go : (b : Bool) → series_key_eq (key_of x) (key_of y) ≡ b → series_key_eq (key_of x) (key_of y) ≡ false
        go false e = e
        go true e =
            let rows : row_shown x ≡ row_shown y = ap (λ (p : Row × Reading). p.0) ox ∙ ap (row_of display) (key_exact (key_of x) (key_of y) e) ∙ sym (ap (λ (p : Row × Reading). p.0) oy) in
            let same : R x y ≡ Equal = order x y ∙ ap (row_cmp (row_shown x)) (sym rows) ∙ tied_itself row_total (row_shown x) in
            absurd (false≢true (sym differ ∙ ap is_eq same))

    keys-once : (rows : List ShownRow) → AllByRecursion IsOwn rows → IsDistinct (eq_by_cmp R) rows → IsDistinct series_key_eq (map (λ t. t.0) (map keyed_shown rows))
    keys-once [] own once = none-once
    keys-once (x ∷ rows) own once =
        IsDistinct-cons series_key_eq (key_of x) (map (λ t. t.0) (map keyed_shown rows)) (later rows own.1 (IsDistinct-head (eq_by_cmp R) x rows once)) (keys-once rows own.1 (IsDistinct-tail (eq_by_cmp R) x rows once))
      where
        later : (ys : List ShownRow) → AllByRecursion IsOwn ys → AllByRecursion (λ y. eq_by_cmp R x y ≡ false) ys → AllByRecursion (λ k. series_key_eq (key_of x) k ≡ false) (map (λ t. t.0) (map keyed_shown ys))
        later [] h g = tt
        later (y ∷ ys) h g = (apart x y own.0 h.0 g.0, later ys h.1 g.1)

    -- what is left of sorted rows
    pub rows-once : (total : IsTotalOrder R) (E : ShownRow → ShownRow → Bool) → ((a b : ShownRow) → E a b ≡ eq_by_cmp R a b)
        → (keyed : List KeyedReading) (us xs ys : List ShownRow) → map pair_shown us ≡ map (pair_of display) keyed → IsPermutation us xs → IsStrictlySortedBy R ys → ys ≡ dedup E xs
        → (map pair_shown ys ≡ map (pair_of display) (map keyed_shown ys)) × AreOnce keyed (map keyed_shown ys)
    rows-once total E ties keyed us xs ys made moved up left =
        let same : map keyed_shown us ≡ keyed = keyed-pairs us ∙ ap (map keyed_pair) made ∙ pairs-keyed display keyed in
        let own-us : AllByRecursion IsOwn us = rows-own us (subst (AllByRecursion IsPair) (sym made) (pairs-own keyed)) in
        let own-ys : AllByRecursion IsOwn ys = recursion_from_All IsOwn ys (subst (All IsOwn) (sym left) (All-dedup E IsOwn xs (All-permutation IsOwn us xs moved (All-from_recursion IsOwn us own-us)))) in
        let equiv : IsEquivalence E = subst IsEquivalence (λ i a b. sym (ties a b) i) (eq_by_cmp_equiv total) in (
          own-map ys own-ys,
          record {
            once = keys-once ys own-ys (IsDistinct-from_sorted R ys up);
            among = λ t there.
                let r = unmapped keyed_shown ys t there in
                let x = r.0 in
                let at : Contains us x = Contains-permutation xs us x (IsPermutation-sym us xs moved) (Contains-from_dedup E xs x (subst (λ l. Contains l x) left r.1)) in
                subst (λ l. Contains l t) same (subst (Contains (map keyed_shown us)) r.2 (mapped keyed_shown us x at));
            all = λ s there.
                let there' : Contains (map (λ t. t.0) (map keyed_shown us)) s = subst (λ l. Contains (map (λ t. t.0) l) s) (sym same) there in
                let r = unmapped (λ (t : KeyedReading). t.0) (map keyed_shown us) s there' in
                let q = unmapped keyed_shown us r.0 r.1 in
                let any = Any-dedup equiv xs q.0 (Contains-permutation us xs q.0 moved q.1) in
                let y = any.1 in
                let in-ys : Contains ys y = subst (λ l. Contains l y) (sym left) (any.0, any.2, any.3) in
                let equal : row_cmp (row_shown q.0) (row_shown y) ≡ Equal = sym (order q.0 y) ∙ is-equal (R q.0 y) (sym (ties q.0 y) ∙ any.4) in
                let s-is : key_of y ≡ s = sym (series-from (row_shown q.0) (row_shown y) equal) ∙ ap (λ (t : KeyedReading). t.0) q.2 ∙ r.2 in
                subst (Contains (map (λ t. t.0) (map keyed_shown ys))) s-is (mapped (λ (t : KeyedReading). t.0) (map keyed_shown ys) (keyed_shown y) (mapped keyed_shown ys y in-ys));
          },
        )

-- ---- what is left of what is held

pub readings-once : (cells : Cells) (keyed kept : List KeyedReading) → AreReadings cells keyed → AreOnce keyed kept → AreReadings cells kept
readings-once cells keyed kept are once = record {
  once = once.once;
  held = λ s. (
    (λ there. let r = unmapped (λ (t : KeyedReading). t.0) kept s there in (are.held s).0 (subst (Contains (map (λ t. t.0) keyed)) r.2 (mapped (λ (t : KeyedReading). t.0) keyed r.0 (once.among r.0 r.1)))),
    (λ held. once.all s ((are.held s).1 held)),
  );
  readings = each kept (λ t there. each-in (λ t. reading_in cells t.0 ≡ Some t.1) keyed t are.readings (once.among t there));
}
  where
    each : (ks : List KeyedReading) → ((t : KeyedReading) → Contains ks t → reading_in cells t.0 ≡ Some t.1) → AllByRecursion (λ t. reading_in cells t.0 ≡ Some t.1) ks
    each [] f = tt
    each (k ∷ ks) f = (f k (in-first k ks), each ks (λ t there. f t (in-later k ks t there)))

-- ---- a list without repeated series reports its own cells

turned : (a b : SeriesKey) → series_key_eq a b ≡ false → series_key_eq b a ≡ false
turned a b h = go (series_key_eq b a) refl
  where
    go : (t : Bool) → series_key_eq b a ≡ t → series_key_eq b a ≡ false
    go false e = e
    go true e = absurd (false≢true (sym h ∙ (series_key_eq-Decides a b).1 (sym ((series_key_eq-Decides b a).0 e))))

abbrev found : List KeyedReading → SeriesKey → Option Reading
found keyed s = lookup (series_key_eq s) keyed

found-later : (x : KeyedReading) (all es : List KeyedReading) → AllByRecursion (λ q. series_key_eq x.0 q ≡ false) (map (λ t. t.0) es) → AllByRecursion (λ e. found all e.0 ≡ Some e.1) es
    → AllByRecursion (λ e. found (x ∷ all) e.0 ≡ Some e.1) es
found-later x all [] h g = tt
found-later x all (e ∷ es) h g = (ap (λ b. cond b (Some x.1) (found all e.0)) (turned x.0 e.0 h.0) ∙ g.0, found-later x all es h.1 g.1)

found-each : (keyed : List KeyedReading) → IsDistinct series_key_eq (map (λ t. t.0) keyed) → AllByRecursion (λ t. found keyed t.0 ≡ Some t.1) keyed
found-each [] once = tt
found-each (x ∷ keyed) once = (
  ap (λ b. cond b (Some x.1) (found keyed x.0)) ((series_key_eq-Decides x.0 x.0).1 refl),
  found-later x keyed keyed (IsDistinct-head series_key_eq x.0 (map (λ t. t.0) keyed) once) (found-each keyed (IsDistinct-tail series_key_eq x.0 (map (λ t. t.0) keyed) once)),
)

found-in : (keyed : List KeyedReading) (s : SeriesKey) → IsSome (found keyed s) → Contains (map (λ t. t.0) keyed) s
found-in [] s some = absurd (false≢true some)
found-in (x ∷ keyed) s some = go (series_key_eq s x.0) refl (found-in keyed s) some
  where
    go : (b : Bool) → series_key_eq s x.0 ≡ b → (IsSome (found keyed s) → Contains (map (λ t. t.0) keyed) s) → IsSome (cond b (Some x.1) (found keyed s)) → Contains (map (λ t. t.0) (x ∷ keyed)) s
    go true e rest h = subst (Contains (x.0 ∷ map (λ t. t.0) keyed)) (sym ((series_key_eq-Decides s x.0).0 e)) (in-first x.0 (map (λ t. t.0) keyed))
    go false e rest h = in-later x.0 (map (λ t. t.0) keyed) s (rest h)

in-found : (keyed : List KeyedReading) (s : SeriesKey) → AllByRecursion (λ t. found keyed t.0 ≡ Some t.1) keyed → Contains (map (λ t. t.0) keyed) s → IsSome (found keyed s)
in-found keyed s each there =
    let r = unmapped (λ (t : KeyedReading). t.0) keyed s there in
    let is = each-in (λ t. found keyed t.0 ≡ Some t.1) keyed r.0 each r.1 in
    subst (λ k. IsSome (found keyed k)) r.2 (subst IsSome (sym is) refl)

some-map : {A B : Type 0} (f : A → B) (o : Option A) → IsSome o → IsSome (option_map f o)
some-map f None h = absurd (false≢true h)
some-map f (Some a) h = refl

some-from : {A B : Type 0} (f : A → B) (o : Option A) → IsSome (option_map f o) → IsSome o
some-from f None h = absurd (false≢true h)
some-from f (Some a) h = refl

pub readings-keyed : (keyed : List KeyedReading) → IsDistinct series_key_eq (map (λ t. t.0) keyed) → AreReadings (cells_of_readings keyed) keyed
readings-keyed keyed once =
    let each = found-each keyed once in
    record {
      once = once;
      held = λ s. ((λ there. some-map _ (found keyed s) (in-found keyed s each there)), (λ held. found-in keyed s (some-from _ (found keyed s) held)));
      readings = readings keyed each;
    }
  where
    cell : Reading → Cell
    cell r = record { reading = r; generation = 0 }

    readings : (es : List KeyedReading) → AllByRecursion (λ t. found keyed t.0 ≡ Some t.1) es → AllByRecursion (λ t. reading_in (cells_of_readings keyed) t.0 ≡ Some t.1) es
    readings [] h = tt
    readings (e ∷ es) h = (ap (λ (o : Option Reading). option_map (λ (c : Cell). c.reading) (option_map cell o)) h.0, readings es h.1)

-- the labels of rows are in order
pub own-labels : (display : Display) (rows : List ShownRow) → map pair_shown rows ≡ map (pair_of display) (map keyed_shown rows) → AllByRecursion (λ r. IsSorted label_cmp r.labels) rows
own-labels display rows own =
    let P : Row × Reading → Type 0 = λ p. IsSorted label_cmp p.0.labels in
    from rows (subst (AllByRecursion P) (sym own) (each (map keyed_shown rows)))
  where
    each : (keyed : List KeyedReading) → AllByRecursion (λ (p : Row × Reading). IsSorted label_cmp p.0.labels) (map (pair_of display) keyed)
    each [] = tt
    each (t ∷ keyed) = (shown-sorted t.0.key.labels, each keyed)

    from : (rows : List ShownRow) → AllByRecursion (λ (p : Row × Reading). IsSorted label_cmp p.0.labels) (map pair_shown rows) → AllByRecursion (λ r. IsSorted label_cmp r.labels) rows
    from [] h = tt
    from (r ∷ rows) h = (h.0, from rows h.1)
