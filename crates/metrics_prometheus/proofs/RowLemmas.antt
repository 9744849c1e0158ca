-- Rows in order, by reference.
use Rattle.std.proofs.Common.{◌≡◌, ◌∙◌, ◌+◌, ◌<◌, ℕ, zero, suc, List, [], ◌∷◌, ◌++◌, take, map, length, get_or, Some, refl, ap, sym, subst, arith}
use Rattle.std.specs.Prelude.{IsPermutation}
use Rattle.std.specs.List.{AllByRecursion}
use Rattle.std.specs.List.Sorted.{IsSorted}
use Rattle.std.specs.Ordering.{is_lt, ordering_then}
use Rattle.std.specs.declared.cmp.Ordering.{Ordering}
use Rattle.std.specs.declared.cmp.Ordering.TheVariants.{Less, Equal, Greater}
use Rattle.std.proofs.lemmas.List.{take_more, map-append}
use Rattle.std.proofs.lemmas.List.Sorted.{IsPermutation-refl}
use Rattle.metrics_exporter.specs.Exporting.{Reading, Cells}
use Rattle.metrics_exporter.specs.Readings.{KeyedReading, reading_in, AreReadings}
use Rattle.metrics_prometheus.specs.declared.row.ShownRow.{ShownRow}
use Rattle.metrics_exposition.specs.Naming.{Display}
use Rattle.metrics_prometheus.specs.Exposition.{Row, row_of, row_cmp, reading_at, AreRows}
use Rattle.metrics_prometheus.specs.Rows.{row_shown, rows_shown, pair_shown, pair_of, keyed_shown, Shows}

module _ {A B : Type 0} (f : A → B) where
  pub map-length : (xs : List A) → length (map f xs) ≡ length xs
  map-length [] = refl
  map-length (x ∷ xs) = ap suc (map-length xs)

  pub map-get : (xs : List A) (j : ℕ) (d : B) (r : A) → j < length xs → get_or (map f xs) j d ≡ f (get_or xs j r)
  map-get [] j d r within = absurd (omega (arith, within))
  map-get (x ∷ xs) zero d r within = refl
  map-get (x ∷ xs) (suc j) d r within = map-get xs j d r (omega (arith, within))

  -- what is sorted stays so when it is shown
  pub sorted-map : (C : A → A → Ordering) (D : B → B → Ordering) → ((a b : A) → C a b ≡ D (f a) (f b)) → (xs : List A) → IsSorted C xs → IsSorted D (map f xs)
  sorted-map C D same [] up k d first small = absurd (omega (arith, small))
  sorted-map C D same (x ∷ xs) up k d first small =
      let fits : k + 1 < length (x ∷ xs) = omega (arith, small, map-length xs) in
      let below : k < length (x ∷ xs) = omega (arith, fits) in
      ap is_lt (ap (λ s. D s (get_or (map f (x ∷ xs)) k d)) (map-get (x ∷ xs) (k + 1) d x fits) ∙ ap (D (f (get_or (x ∷ xs) (k + 1) x))) (map-get (x ∷ xs) k d x below) ∙ sym (same (get_or (x ∷ xs) (k + 1) x) (get_or (x ∷ xs) k x)))
      ∙ up k x (omega arith) fits

-- the first of three orders decides before the other two
pub then-first : (o p q : Ordering) → ordering_then (ordering_then o p) q ≡ ordering_then o (ordering_then p q)
then-first Less p q = refl
then-first Equal p q = refl
then-first Greater p q = refl

-- one row more
pub rows-more : {S : Type 0} (keyed : S → KeyedReading) (display : Display) (xs ys : List ShownRow) (ss : List S) (i : ℕ) (x : ShownRow) (s : S)
    → i < length ss → s ≡ get_or ss i s → ys ≡ xs ++ x ∷ [] → pair_shown x ≡ pair_of display (keyed s) → map pair_shown xs ≡ map (pair_of display) (map keyed (take i ss)) → map pair_shown ys ≡ map (pair_of display) (map keyed (take (i + 1) ss))
rows-more keyed display xs ys ss i x s small at is shown so =
    let f : KeyedReading → Row × Reading = pair_of display in
    let done = map keyed (take i ss) in
    let last : KeyedReading = keyed (get_or ss i s) in
    ap (map pair_shown) is ∙ map-append pair_shown xs (x ∷ []) ∙ ap (λ l. l ++ pair_shown x ∷ []) so ∙ ap (λ r. map f done ++ r ∷ []) (shown ∙ ap (λ q. f (keyed q)) at)
    ∙ sym (ap (λ l. map f (map keyed l)) (take_more ss i s small) ∙ ap (map f) (map-append keyed (take i ss) (get_or ss i s ∷ [])) ∙ map-append f done (last ∷ []))

-- rows by reference, as rows
rows-first : (rows : List ShownRow) → map (λ (p : Row × Reading). p.0) (map pair_shown rows) ≡ rows_shown rows
rows-first [] = refl
rows-first (r ∷ rows) = ap (λ l. row_shown r ∷ l) (rows-first rows)

keyed-first : (display : Display) (keyed : List KeyedReading) → map (λ (p : Row × Reading). p.0) (map (pair_of display) keyed) ≡ map (row_of display) (map (λ t. t.0) keyed)
keyed-first display [] = refl
keyed-first display (t ∷ keyed) = ap (λ l. row_of display t.0 ∷ l) (keyed-first display keyed)

unmapped : (P : Row × Reading → Type 0) (rows : List ShownRow) → AllByRecursion P (map pair_shown rows) → AllByRecursion (λ r. P (pair_shown r)) rows
unmapped P [] h = tt
unmapped P (r ∷ rows) h = (h.0, unmapped P rows h.1)

keyed-read : (display : Display) (cells : Cells) (keyed : List KeyedReading) → AllByRecursion (λ t. reading_in cells t.0 ≡ Some t.1) keyed → AllByRecursion (λ (p : Row × Reading). reading_at cells p.0 ≡ Some p.1) (map (pair_of display) keyed)
keyed-read display cells [] h = tt
keyed-read display cells (t ∷ keyed) h = (h.0, keyed-read display cells keyed h.1)

-- rows of what is held
pub are-rows : (display : Display) (cells : Cells) (rows : List ShownRow) → AreReadings cells (map keyed_shown rows) → map pair_shown rows ≡ map (pair_of display) (map keyed_shown rows) → IsSorted row_cmp (rows_shown rows)
    → AreRows display cells (rows_shown rows)
are-rows display cells rows are own up =
    let f : Row × Reading → Row = λ p. p.0 in
    let keyed = map keyed_shown rows in
    let same : map (row_of display) (map (λ t. t.0) keyed) ≡ rows_shown rows = sym (keyed-first display keyed) ∙ ap (map f) (sym own) ∙ rows-first rows in
    record {
      keys = map (λ t. t.0) keyed;
      once = are.once;
      held = are.held;
      same = subst (IsPermutation (map (row_of display) (map (λ t. t.0) keyed))) same (IsPermutation-refl (map (row_of display) (map (λ t. t.0) keyed)));
      ordered = up;
    }

-- and each shows what its series has
pub rows-show : (display : Display) (cells : Cells) (rows : List ShownRow) → AreReadings cells (map keyed_shown rows) → map pair_shown rows ≡ map (pair_of display) (map keyed_shown rows) → AllByRecursion (Shows cells) rows
rows-show display cells rows are own =
    let P : Row × Reading → Type 0 = λ p. reading_at cells p.0 ≡ Some p.1 in
    unmapped P rows (subst (AllByRecursion P) (sym own) (keyed-read display cells (map keyed_shown rows) are.readings))
