-- The rows of a snapshot, and one more row.
use Rattle.std.proofs.Common.{◌≡◌, Bool, true, false, cond, List, [], ◌∷◌, ◌++◌, None, Some, refl, ap, ◌∙◌, append-nil}
use Rattle.std.proofs.lemmas.List.Elements.{filter_map-append}
use Rattle.std.specs.List.{filter_map, cons_option}
use Rattle.metrics_names.specs.Names.{SeriesKey, series_key_eq}
use Rattle.metrics.specs.Book.{RowParts}
use Rattle.metrics.specs.Rows.{row_at, last, last_row}

pub last-push : {A : Type 0} (xs : List A) (x : A) → last (xs ++ x ∷ []) ≡ Some x
last-push [] x = refl
last-push (y ∷ []) x = refl
last-push (y ∷ z ∷ zs) x = last-push (z ∷ zs) x

pub last_row-push : (k : SeriesKey) (rows : List RowParts) (r : RowParts) → last_row k (rows ++ r ∷ []) ≡ cond (series_key_eq r.0 k) (Some (r.1, r.2, r.3)) (last_row k rows)
last_row-push k rows r =
    ap last (filter_map-append (row_at k) rows (r ∷ [])) ∙ by_test (series_key_eq r.0 k)
  where
    by_test : (b : Bool) → last (filter_map (row_at k) rows ++ cons_option (cond b (Some (r.1, r.2, r.3)) None) []) ≡ cond b (Some (r.1, r.2, r.3)) (last_row k rows)
    by_test true = last-push (filter_map (row_at k) rows) (r.1, r.2, r.3)
    by_test false = ap last (append-nil (filter_map (row_at k) rows))
