use Rattle.std.proofs.Common.{rules, ◌≡◌, ◌∙◌, map, ap, subst, sym}
use Rattle.std.specs.Prelude.{IsPermutation}
use Rattle.std.specs.List.{dedup}
use Rattle.std.specs.List.Sorted.{IsStrictlySortedBy}
use Rattle.std.proofs.lemmas.Fn.{dedup_same}
use Rattle.std.proofs.lemmas.List.Kept.{IsStrictlySortedBy-dedup}
use Rattle.std.proofs.lemmas.List.Sorted.{IsPermutation-map}
use Rattle.metrics_prometheus.specs.contracts.row.ShownRowPartialEq.TheImpl.{ghosts}
use Rattle.metrics_prometheus.specs.contracts.row.ShownRowOrd.TheImpl.Laws.{total-law, matches_eq-law}
use Rattle.metrics_prometheus.specs.declared.row.ShownRow.{ShownRow}
use Rattle.metrics_prometheus.specs.declared.rows.Place.{Place}
use Rattle.metrics_prometheus.specs.Exposition.{row_cmp}
use Rattle.metrics_prometheus.specs.Places.{rows_placed}
use Rattle.metrics_prometheus.specs.Rows.{row_shown}
use Rattle.metrics_prometheus.proofs.RowLemmas.{sorted-map}
use Rattle.metrics_prometheus.proofs.OnceLemmas.{rows-once, sorted-strictly, own-labels}
use Rattle.metrics_prometheus.proofs.PlaceLemmas.{dedup-map, placed-sorted, alike-kept}
use Rattle.metrics_prometheus.proofs.rows.sorted_rows.Goals as goal

pub returns-clause-rows : goal.returns-clause-rows
returns-clause-rows c = λ display keyed made.
    let f : Place → ShownRow = λ p. p.row.now in
    let rows = c.args.rows.now in
    let us = c.in_ok-places.places.items in
    let ps = c.sort.new.self.items in
    let qs = c.dedup_by.new.self.items in
    let xs = rows_placed ps in
    let ys = rows_placed qs in
    let kept = dedup_same _ (λ p q. ghosts.eq (f p) (f q)) _ (λ x y b g x' y' k. search rules) ps qs c.dedup_by.ensures.filtered in
    let left : ys ≡ dedup ghosts.eq xs = ap (map f) kept ∙ dedup-map f ghosts.eq ps in
    let sorted = placed-sorted _ _ (λ a b. c.place_order.ensures a b) (λ a b. c.row_order.ensures a b) c.are_alike-are_alike.result rows us ps c.in_ok-places.ensures.rows c.sort.ensures.permutation c.in_ok-places.ensures.placed c.are_alike-are_alike.ensures.head c.are_alike-are_alike.ensures.key c.in_ok-sort.ensures.sorted in
    let up = subst (IsStrictlySortedBy _) (sym left) (IsStrictlySortedBy-dedup total-law matches_eq-law xs sorted) in
    let moved : IsPermutation rows xs = subst (λ l. IsPermutation l xs) c.in_ok-places.ensures.rows (IsPermutation-map f us ps c.sort.ensures.permutation) in
    let r = rows-once display _ (λ a b. c.row_order.ensures a b) total-law _ matches_eq-law keyed rows xs ys made moved up left in
    record {
      own = r.0;
      once = r.1;
      labels = own-labels display ys r.0;
      ordered = sorted-map row_shown _ row_cmp (λ a b. c.row_order.ensures a b) ys (sorted-strictly _ total-law ys up);
    }

pub returns-clause-alike : goal.returns-clause-alike
returns-clause-alike c = λ is.
    let f : Place → ShownRow = λ p. p.row.now in
    let rows = c.args.rows.now in
    let us = c.in_ok-places.places.items in
    let ps = c.sort.new.self.items in
    let qs = c.dedup_by.new.self.items in
    let kept = dedup_same _ (λ p q. ghosts.eq (f p) (f q)) _ (λ x y b g x' y' k. search rules) ps qs c.dedup_by.ensures.filtered in
    let moved : IsPermutation rows (rows_placed ps) = subst (λ l. IsPermutation l (rows_placed ps)) c.in_ok-places.ensures.rows (IsPermutation-map f us ps c.sort.ensures.permutation) in
    alike-kept ghosts.eq rows (rows_placed ps) (rows_placed qs) moved (ap (map f) kept ∙ dedup-map f ghosts.eq ps) (c.are_alike-are_alike.ensures.head is) (c.are_alike-are_alike.ensures.key is)
