-- Series by reference: gathered shard by shard, and sorted.
use Rattle.std.proofs.Common.{Some, IsSome, ◌≡◌, ℕ, ◌+◌, ◌<◌, ◌≤◌, List, [], ◌∷◌, length, get_or, refl, ap, sym, ◌∙◌, subst, arith, suc, zero}
use Rattle.std.specs.Ordering.{is_lt}
use Rattle.std.specs.declared.cmp.Ordering.{Ordering}
use Rattle.std.specs.List.Sorted.{IsSorted}
use Rattle.metrics_names.specs.Names.{SeriesKey, series_key_cmp}
use Rattle.metrics_registry.proofs.ShardLemmas.{map-length, map-get}
use Rattle.std.proofs.lemmas.List.Elements.{Contains-get_or}
use Rattle.metrics_exporter.specs.Exporting.{Cells, AreSeries}
use Rattle.metrics_exporter.specs.declared.series.SeriesRef.{SeriesRef}
use Rattle.metrics_exporter.specs.Gathering.{series_shown, cell_shown, all_shown, AreSeen}

shown-length : (rows : List SeriesRef) → length (all_shown rows) ≡ length rows
shown-length rows = map-length series_shown rows

pub shown-get : (rows : List SeriesRef) (i : ℕ) (row : SeriesRef) → row ≡ get_or rows i row → series_shown row ≡ get_or (all_shown rows) i (series_shown row)
shown-get rows i row at = ap series_shown at ∙ map-get series_shown rows i row

pub shown-within : (rows : List SeriesRef) (i : ℕ) → i < length rows → i < length (all_shown rows)
shown-within rows i small = omega (arith, small, shown-length rows)

pub shown-end : (rows : List SeriesRef) (i : ℕ) → length rows ≤ i → length (all_shown rows) ≤ i
shown-end rows i end = omega (arith, end, shown-length rows)

-- the series of a reference is held
pub shown-held : (cells : Cells) (rows : List SeriesRef) (i : ℕ) (row : SeriesRef) → AreSeries cells (all_shown rows) → i < length rows → row ≡ get_or rows i row → IsSome (cells (series_shown row))
shown-held cells rows i row series small at =
    let P : SeriesKey → Type 0 = λ s. IsSome (cells s) in
    subst P (sym (shown-get rows i row at)) ((series.held (get_or (all_shown rows) i (series_shown row))).0 (Contains-get_or (all_shown rows) i (series_shown row) (shown-within rows i small)))

-- the cell of a reference is the one of its series
pub seen-own : (cells : Cells) (rows : List SeriesRef) (i : ℕ) (row : SeriesRef) → AreSeen cells rows → i < length rows → row ≡ get_or rows i row → cells (series_shown row) ≡ Some (cell_shown row.cell)
seen-own cells rows i row seen small at = seen.own row (i, small, sym at)

-- references in order show series in order
pub shown-sorted : (C : SeriesRef → SeriesRef → Ordering) → ((a b : SeriesRef) → C a b ≡ series_key_cmp (series_shown a) (series_shown b))
    → (rows : List SeriesRef) → IsSorted C rows → IsSorted series_key_cmp (all_shown rows)
shown-sorted C order [] up k d first small = absurd (omega (arith, small))
shown-sorted C order (r ∷ rows) up k d first small =
    let fits : k + 1 < length (r ∷ rows) = omega (arith, small, shown-length rows) in
    let below : k < length (r ∷ rows) = omega (arith, fits) in
    let at : (j : ℕ) → j < length (r ∷ rows) → get_or (all_shown (r ∷ rows)) j d ≡ series_shown (get_or (r ∷ rows) j r) = λ j within. shown-at (r ∷ rows) j d r within in
    ap is_lt (ap (λ s. series_key_cmp s (get_or (all_shown (r ∷ rows)) k d)) (at (k + 1) fits) ∙ ap (series_key_cmp (series_shown (get_or (r ∷ rows) (k + 1) r))) (at k below) ∙ sym (order (get_or (r ∷ rows) (k + 1) r) (get_or (r ∷ rows) k r)))
    ∙ up k r (omega arith) fits
  where
    shown-at : (xs : List SeriesRef) (j : ℕ) (d : SeriesKey) (r : SeriesRef) → j < length xs → get_or (all_shown xs) j d ≡ series_shown (get_or xs j r)
    shown-at [] j d r within = absurd (omega (arith, within))
    shown-at (x ∷ xs) zero d r within = refl
    shown-at (x ∷ xs) (suc j) d r within = shown-at xs j d r (omega (arith, within))
