use Rattle.std.proofs.Common.{◌≡◌, ◌+◌, length, refl, ap, sym, subst, ◌∙◌, rules, to_z, of_z}
use Rattle.std.specs.Int.{w128}
use Rattle.std.proofs.Math.Facts.{to_z-of_z}
use Rattle.std.proofs.lemmas.List.Elements.{same_from_all_zip}
use Rattle.std.specs.Arc.{arc_value}
use Rattle.metrics_storage.specs.Histogram.{total, buckets_of, IsSumOf}
use Rattle.metrics_storage.proofs.Counting.{same_distribution}
use Rattle.metrics_storage.proofs.histogram.HistogramClone.clone.Goals as goal

-- the fields hold what the cloned ones hold
module _ (c : goal.After-result-2-1) where
  bounds : arc_value c.in_ok-clone.field-0 ≡ arc_value c.self.inside.scale
  bounds = (c.in_ok-clone.ensures {u = tt}).cases

  ranks : c.in_ok-clone-2.field-0.items ≡ c.self.inside.ranks.items
  ranks = same_from_all_zip _ _ _ (c.in_ok-clone-2.ensures {u = tt}).cases.0 (λ x y e. e)

  sum : to_z w128 (of_z w128 c.self.inside.sum) ≡ c.self.inside.sum
  sum = to_z-of_z {w = w128} {z = c.self.inside.sum} (search rules)

pub invariant_of-result : goal.invariant_of-result
invariant_of-result c =
    let (long, all, fits, is_sum) = c.self.invariant in
    (ap length (ranks c) ∙ long ∙ ap (λ l. length l + 1) (sym (bounds c)), ap total (ranks c) ∙ all, fits, subst (λ z. IsSumOf c.self.inside.count z) (sym (sum c)) is_sum)

pub returns : goal.returns
returns c = record { cases = same_distribution (λ j. buckets_of (bounds c j) (ranks c j)) refl (sum c) ∙ c.self.view_is }
