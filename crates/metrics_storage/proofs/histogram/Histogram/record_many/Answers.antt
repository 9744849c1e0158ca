use Rattle.std.proofs.Common.{◌≡◌, ◌+◌, ◌++◌, length, take, drop, ap, ◌∙◌, refl, arith}
use Rattle.std.proofs.lemmas.Int.{ints}
use Rattle.std.specs.Arc.{arc_value}
use Rattle.metrics_storage.specs.Histogram.{all_ranked, total, buckets_of, with_samples}
use Rattle.metrics_storage.proofs.Counting.{length-all_ranked, total-all_ranked, buckets-all_ranked, refilled, same_distribution}
use Rattle.metrics_storage.proofs.histogram.Histogram.record_many.Goals as goal

-- the numbers that the vector has afterwards
filled : (c : goal.After-self-4-1) → take c.self.inside.ranks.len (c.add_samples.new.ranks ++ drop (length c.add_samples.new.ranks) c.self.inside.ranks.items) ≡ all_ranked (arc_value c.self.inside.scale) c.args.samples.now c.self.inside.ranks.items
filled c =
    let v = c.self.inside.ranks in let bounds = (arc_value c.self.inside.scale) in let samples = c.args.samples.now in
    let is = c.add_samples.ensures ∙ (λ j. all_ranked ((c.bounds.ensures.value ∙ c.deref.ensures) j) samples (c.deref_mut.ensures.value j)) in
    refilled v.len v.items c.add_samples.new.ranks v.ok.0 (ap length is ∙ length-all_ranked bounds samples v.items) ∙ is

pub invariant_of-self : goal.invariant_of-self
invariant_of-self c =
    let h = c.self.invariant in let e = c.sum_all.ensures.fits in let room = c.if-self-samples.false in
    let bounds = (arc_value c.self.inside.scale) in let ranks = c.self.inside.ranks.items in let samples = c.args.samples.now in (
      ap length (filled c) ∙ length-all_ranked bounds samples ranks ∙ h.0,
      ap total (filled c) ∙ total-all_ranked bounds samples ranks h.0 ∙ ap (λ n. n + length samples) h.1,
      omega (arith, h.2, room),
      (omega (arith, ints, h.3, e, room), omega (arith, ints, h.3, e, room)),
    )

pub returns-clause-step : goal.returns-clause-step
returns-clause-step c =
    let h = c.self.invariant in let e = c.sum_all.ensures in let bounds = (arc_value c.self.inside.scale) in let samples = c.args.samples.now in
    same_distribution (ap (buckets_of bounds) (filled c) ∙ buckets-all_ranked bounds samples c.self.inside.ranks.items h.0) refl (omega (arith, ints, h.3, e.fits, e.value, c.if-self-samples.false))
    ∙ ap (with_samples samples) c.self.view_is
