use Rattle.std.proofs.Common.{◌≡◌, ◌+◌, length, refl, ap, sym, ◌∙◌, arith}
use Rattle.std.specs.Arc.{arc_value}
use Rattle.std.proofs.lemmas.List.{length-replicate}
use Rattle.std.proofs.lemmas.Int.{ints}
use Rattle.metrics_storage.specs.Histogram.{total, buckets_of, bounds_of, no_samples}
use Rattle.metrics_storage.proofs.Counting.{total-zeros, buckets-zeros, same_distribution}
use Rattle.metrics_storage.proofs.Merging.{bounds-of-buckets}
use Rattle.metrics_storage.proofs.histogram.Histogram.new_like.Goals as goal

module _ (c : goal.In_ok-zeros) where
  held : arc_value c.in_ok-clone.field-0 ≡ arc_value c.self.inside.scale
  held = (c.in_ok-clone.ensures {u = tt}).cases

  long : length c.in_ok-zeros.field-0.items ≡ length (arc_value c.self.inside.scale) + 1
  long = ap length (c.in_ok-zeros.ensures {u = tt}) ∙ length-replicate c.len.result 0 ∙ c.len.ensures ∙ c.self.inside.ranks.ok.0 ∙ c.self.invariant.0

pub invariant_of-result : goal.invariant_of-result
invariant_of-result c =
    let zeros = c.in_ok-zeros.ensures {u = tt} in (
      long c ∙ ap (λ l. length l + 1) (sym (held c)),
      ap total zeros ∙ total-zeros c.len.result,
      omega arith,
      (omega (arith, ints), omega (arith, ints)),
    )

pub returns : goal.returns
returns c =
    let h = c.self.inside in let bounds = arc_value h.scale in
    same_distribution ((λ j. buckets_of (held c j) (c.in_ok-zeros.ensures {u = tt} j)) ∙ buckets-zeros bounds c.len.result) refl refl
    ∙ ap no_samples (sym (bounds-of-buckets bounds h.ranks.items) ∙ ap bounds_of c.self.view_is)
