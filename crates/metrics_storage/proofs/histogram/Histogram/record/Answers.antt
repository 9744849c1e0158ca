use Rattle.std.proofs.Common.{◌≡◌, ◌+◌, ◌++◌, ◌∷◌, [], length, take, drop, ap, ◌∙◌, refl, arith, rules, w64}
use Rattle.std.proofs.Math.Facts.{to_z-of_z}
use Rattle.std.proofs.lemmas.Int.{ints}
use Rattle.std.specs.Arc.{arc_value}
use Rattle.metrics_storage.specs.Histogram.{ranked, total, buckets_of, with_samples}
use Rattle.metrics_storage.proofs.Counting.{length-ranked, total-ranked, buckets-ranked, refilled, same_distribution}
use Rattle.metrics_storage.proofs.histogram.Histogram.record.Goals as goal

-- the numbers that the vector has afterwards
filled : (c : goal.After-self-4-1) → take c.self.inside.ranks.len (c.add_sample.new.ranks ++ drop (length c.add_sample.new.ranks) c.self.inside.ranks.items) ≡ ranked (arc_value c.self.inside.scale) c.args.sample c.self.inside.ranks.items
filled c =
    let v = c.self.inside.ranks in let bounds = (arc_value c.self.inside.scale) in let read = to_z-of_z {w = w64} {z = c.args.sample} (search rules) in
    let is = c.add_sample.ensures ∙ (λ j. ranked ((c.bounds.ensures.value ∙ c.deref.ensures) j) (read j) (c.deref_mut.ensures.value j)) in
    refilled v.len v.items c.add_sample.new.ranks v.ok.0 (ap length is ∙ length-ranked bounds c.args.sample v.items) ∙ is

pub invariant_of-self : goal.invariant_of-self
invariant_of-self c =
    let h = c.self.invariant in let e = c.from.ensures in let f = c.ranges.sample.sfits in
    let bounds = (arc_value c.self.inside.scale) in let ranks = c.self.inside.ranks.items in (
      ap length (filled c) ∙ length-ranked bounds c.args.sample ranks ∙ h.0,
      ap total (filled c) ∙ total-ranked bounds c.args.sample ranks h.0 ∙ ap (λ n. n + 1) h.1,
      omega (arith, h.2, c.if-self.false),
      (omega (arith, ints, h.3, e, f), omega (arith, ints, h.3, e, f)),
    )

pub returns-clause-step : goal.returns-clause-step
returns-clause-step c =
    let h = c.self.invariant in let bounds = (arc_value c.self.inside.scale) in
    same_distribution (ap (buckets_of bounds) (filled c) ∙ buckets-ranked bounds c.args.sample c.self.inside.ranks.items h.0) refl (omega (arith, ints, h.3, c.from.ensures, c.ranges.sample.sfits))
    ∙ ap (with_samples (c.args.sample ∷ [])) c.self.view_is
