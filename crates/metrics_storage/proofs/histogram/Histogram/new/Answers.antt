use Rattle.std.proofs.Common.{◌≡◌, ◌+◌, length, refl, ap, sym, ◌∙◌, arith, rules}
use Rattle.std.specs.Arc.{arc_value}
use Rattle.std.proofs.lemmas.List.{length-replicate}
use Rattle.std.proofs.lemmas.Int.{ints}
use Rattle.metrics_storage.specs.Histogram.{total, buckets_of}
use Rattle.metrics_storage.proofs.Counting.{total-zeros, buckets-zeros, same_distribution}
use Rattle.metrics_storage.proofs.histogram.Histogram.new.Goals as goal

-- the bounds are the caller's
held : (c : goal.In_ok-zeros) → arc_value c.in_ok-new-2.field-0 ≡ c.args.bounds.now
held c = (c.in_ok-new-2.ensures {u = tt}).ok ∙ (c.in_ok-new.ensures {u = tt}).same

pub invariant_of-result : goal.invariant_of-result
invariant_of-result c =
    let n = length c.args.bounds.now + 1 in let zeros = c.in_ok-zeros.ensures {u = tt} in (
      ap length zeros ∙ length-replicate n 0 ∙ ap (λ l. length l + 1) (sym (held c)),
      ap total zeros ∙ total-zeros n,
      omega arith,
      (omega (arith, ints), omega (arith, ints)),
    )

pub returns : goal.returns
returns c =
    let bounds = c.args.bounds.now in
    (search rules, same_distribution ((λ j. buckets_of (held c j) (c.in_ok-zeros.ensures {u = tt} j)) ∙ buckets-zeros bounds (length bounds + 1)) refl refl, (c.in_ok-new.ensures {u = tt}).fits)
