-- Lists of labels compare label by label.
use Rattle.std.specs.Prelude.{◌≡◌, List, Some}
use Rattle.std.specs.Cmp.{IsEquivalence, IsTotalOrder, IsPartialOrder, and_equiv, then_total, both_tied, po}
use Rattle.std.specs.Cmp.Lexicographic.{pointwise, slice_cmp, lists_equiv, lists_total, lists_ties, on_texts, on_texts_equal, texts_ties}
use Rattle.std.specs.Ordering.{nat_cmp, eq_by_cmp}
use Rattle.metrics_names.specs.Names.{LabelParts, label_eq, label_cmp}

pub labels_equiv : IsEquivalence (pointwise label_eq)
labels_equiv = lists_equiv (and_equiv (on_texts_equal (λ l. l.0)) (on_texts_equal (λ l. l.1)))

pub labels_total : IsTotalOrder (slice_cmp label_cmp)
labels_total = lists_total (then_total (on_texts (λ l. l.0)) (on_texts (λ l. l.1)))

-- what is equal is what the order ties
pub labels_ties : (xs ys : List LabelParts) → pointwise label_eq xs ys ≡ eq_by_cmp (slice_cmp label_cmp) xs ys
labels_ties = lists_ties label_cmp (λ x y. both_tied _ _ (slice_cmp nat_cmp x.0 y.0) (slice_cmp nat_cmp x.1 y.1) (texts_ties x.0 y.0) (texts_ties x.1 y.1))

pub labels_po : IsPartialOrder (pointwise label_eq) (λ xs ys. Some (slice_cmp label_cmp xs ys))
labels_po = po labels_total labels_ties
