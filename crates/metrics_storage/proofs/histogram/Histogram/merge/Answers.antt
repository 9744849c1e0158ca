use Rattle.std.proofs.Common.{◌≡◌, ◌+◌, ◌++◌, length, take, drop, ap, sym, ◌∙◌, refl, arith}
use Rattle.std.proofs.lemmas.Int.{ints}
use Rattle.std.specs.Arc.{arc_value}
use Rattle.metrics_storage.specs.Histogram.{total, buckets_of, bounds_of, merged, both_ranked}
use Rattle.metrics_storage.proofs.Counting.{refilled, same_distribution}
use Rattle.metrics_storage.proofs.Merging.{length-both, total-both, buckets-both, both_buckets, bounds-of-buckets}
use Rattle.metrics_storage.proofs.histogram.Histogram.merge.Goals as goal

-- both have numbers at as many places
module _ (c : goal.After-self-5-1) where
  bounds : (arc_value c.other.inside.scale) ≡ (arc_value c.self.inside.scale)
  bounds =
      sym (bounds-of-buckets (arc_value c.other.inside.scale) c.other.inside.ranks.items) ∙ ap bounds_of c.other.view_is ∙ sym c.requires
      ∙ sym (ap bounds_of c.self.view_is) ∙ bounds-of-buckets (arc_value c.self.inside.scale) c.self.inside.ranks.items

  long : length c.self.inside.ranks.items ≡ length c.other.inside.ranks.items
  long = omega (arith, c.self.invariant.0, c.other.invariant.0, ap length bounds)

  -- the numbers that the vector has afterwards
  filled : take c.self.inside.ranks.len (c.add_ranks.new.ranks ++ drop (length c.add_ranks.new.ranks) c.self.inside.ranks.items) ≡ both_ranked c.self.inside.ranks.items c.other.inside.ranks.items
  filled =
      let v = c.self.inside.ranks in let more = c.other.inside.ranks.items in
      let is = c.add_ranks.ensures ∙ (λ j. both_ranked (c.deref_mut.ensures.value j) (c.deref.ensures.value j)) in
      refilled v.len v.items c.add_ranks.new.ranks v.ok.0 (ap length is ∙ length-both v.items more long) ∙ is

pub invariant_of-self : goal.invariant_of-self
invariant_of-self c =
    let h = c.self.invariant in let g = c.other.invariant in let room = c.if-self-other.false in
    let ranks = c.self.inside.ranks.items in let more = c.other.inside.ranks.items in (
      ap length (filled c) ∙ length-both ranks more (long c) ∙ h.0,
      ap total (filled c) ∙ total-both ranks more (long c) ∙ (λ j. h.1 j + g.1 j),
      omega (arith, h.2, g.2, room),
      (omega (arith, ints, h.2, h.3, g.2, g.3, room), omega (arith, ints, h.2, h.3, g.2, g.3, room)),
    )

pub returns-clause-step : goal.returns-clause-step
returns-clause-step c =
    let h = c.self.invariant in let g = c.other.invariant in let room = c.if-self-other.false in
    let bounds_here = (arc_value c.self.inside.scale) in let ranks = c.self.inside.ranks.items in let more = c.other.inside.ranks.items in
    same_distribution
    (ap (buckets_of bounds_here) (filled c) ∙ buckets-both bounds_here ranks more (long c)
    ∙ ap (λ b. both_buckets (buckets_of bounds_here ranks) (buckets_of b more)) (sym (bounds c)))
    refl (omega (arith, ints, h.2, h.3, g.2, g.3, room))
    ∙ (λ j. merged (c.self.view_is j) (c.other.view_is j))
