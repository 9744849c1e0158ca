use Rattle.std.proofs.Common.{◌≡◌, suc, ◌+◌, ◌<◌, length, ap, sym, ◌∙◌, subst, arith}
use Rattle.std.specs.Prelude.{All}
use Rattle.metrics_storage.specs.Histogram.{place_added, order_up_to}
use Rattle.metrics_storage.proofs.Ordering.{order-within}
use Rattle.metrics_storage.proofs.scale.order_of.Goals as goal

pub add_place-requires-clause-order : goal.add_place-requires-clause-order
add_place-requires-clause-order c =
    let bounds = c.args.bounds.now in
    subst (All (λ k. k < length bounds)) (sym c.loop-at.invariant) (order-within bounds c.loop-at.at (omega (arith, c.loop-at-test.true)))

pub loop-at-preserved : goal.loop-at-preserved
loop-at-preserved c =
    let bounds = c.args.bounds.now in let next : suc c.loop-at.at ≡ c.loop-at.at + 1 = omega arith in
    c.in_ok-add_place.ensures {u = tt} ∙ ap (place_added bounds c.loop-at.at) c.loop-at.invariant ∙ ap (order_up_to bounds) next
