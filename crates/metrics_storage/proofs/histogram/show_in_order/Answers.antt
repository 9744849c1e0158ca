use Rattle.std.proofs.Common.{List, ◌≡◌, ℤ, ℕ, suc, ◌+◌, ◌≤◌, ◌<◌, length, take, drop, get_or, pos, ap, sym, subst, ◌∙◌, arith, rules, w64, to_z, of_z}
use Rattle.std.proofs.Math.Facts.{to_z-of_z}
use Rattle.std.proofs.Math.Seq.{take-suc}
use Rattle.std.proofs.lemmas.List.{length-map, take_all}
use Rattle.std.proofs.lemmas.Fn.{FoldsTo-push}
use Rattle.std.specs.Fn.{Called, Takes}
use Rattle.metrics_storage.specs.Histogram.{buckets_of, ShowsBuckets}
use Rattle.metrics_storage.proofs.Counting.{own-length, own-within, split-at}
use Rattle.metrics_storage.proofs.Ordering.{shown_at, shown-in-order, place-within, bucket-shown}
use Rattle.metrics_storage.proofs.histogram.show_in_order.Goals as goal

pub bounds-own-i : goal.bounds-own-i
bounds-own-i g c =
    let within = place-within c.args.bounds.now c.args.order.now c.loop-at.at-index c.requires.order c.loop-at-test.true in
    omega (arith, own-length c.args.bounds.now c.args.own.now c.requires.own, within)

pub bounds-bounds-i : goal.bounds-bounds-i
bounds-bounds-i g c = place-within c.args.bounds.now c.args.order.now c.loop-at.at-index c.requires.order c.loop-at-test.true

pub overflow_add-next : goal.overflow_add-next
overflow_add-next g c =
    let bounds = c.args.bounds.now in let at = get_or c.args.order.now c.loop-at.at-index 0 in
    let within = place-within bounds c.args.order.now c.loop-at.at-index c.requires.order c.loop-at-test.true in
    let w : get_or c.args.own.now at 0 + 1 ≤ length c.args.ranks.now = omega (arith, own-within bounds c.args.own.now c.requires.own at within, c.requires.same) in
    search rules

pub moved-sum-requires-clause-within : goal.moved-sum-requires-clause-within
moved-sum-requires-clause-within g c =
    let bounds = c.args.bounds.now in let at = get_or c.args.order.now c.loop-at.at-index 0 in
    let within = place-within bounds c.args.order.now c.loop-at.at-index c.requires.order c.loop-at-test.true in
    (c.loop-at.invariant.within, omega (arith, own-within bounds c.args.own.now c.requires.own at within, c.requires.same))

pub f-requires : goal.f-requires
f-requires g c =
    let bounds = c.args.bounds.now in let ranks = c.args.ranks.now in let order = c.args.order.now in let k = c.loop-at.at-index in let lt = c.loop-at-test.true in
    let x = get_or bounds (get_or order k 0) (pos 0) in let sum = c.moved-sum.result in
    let shown : List (ℤ × ℕ) = shown_at bounds ranks order in
    let within = place-within bounds order k c.requires.order lt in
    let read : to_z w64 (of_z w64 x) ≡ x = to_z-of_z {w = w64} {z = x} (search rules) in
    let bucket : (to_z w64 (of_z w64 x), sum) ≡ get_or shown k (pos 0, 0) = (λ j. (read j, sum)) ∙ bucket-shown bounds c.args.own.now c.requires.own order ranks k sum lt within c.moved-sum.ensures in
    let long = length-map {B = ℤ × ℕ} order (λ i. get_or (buckets_of bounds ranks) i (pos 0, 0)) in
    let split = sym (shown-in-order bounds order ranks c.requires.order) ∙ split-at shown k (pos 0, 0) (omega (arith, long, lt)) in
    subst (λ (b : ℤ × ℕ). Takes g.F.FnMut c.loop-at.f (b.0, (b.1, tt))) (sym bucket)
    (c.requires.takes.at (take k shown) (drop (suc k) shown) c.loop-at.f (get_or shown k (pos 0, 0)) split c.loop-at.invariant.calls)

pub loop-at-preserved : goal.loop-at-preserved
loop-at-preserved g c =
    let bounds = c.args.bounds.now in let ranks = c.args.ranks.now in let order = c.args.order.now in let k = c.loop-at.at-index in let lt = c.loop-at-test.true in
    let at = get_or order k 0 in let x = get_or bounds at (pos 0) in let sum = c.moved-sum.result in let next : suc k ≡ k + 1 = omega arith in
    let shown : List (ℤ × ℕ) = shown_at bounds ranks order in
    let within = place-within bounds order k c.requires.order lt in
    let read : to_z w64 (of_z w64 x) ≡ x = to_z-of_z {w = w64} {z = x} (search rules) in
    let bucket : (to_z w64 (of_z w64 x), sum) ≡ get_or shown k (pos 0, 0) = (λ j. (read j, sum)) ∙ bucket-shown bounds c.args.own.now c.requires.own order ranks k sum lt within c.moved-sum.ensures in
    let long = length-map {B = ℤ × ℕ} order (λ i. get_or (buckets_of bounds ranks) i (pos 0, 0)) in
    let took = sym (take-suc shown k (pos 0, 0) (omega (arith, long, lt))) ∙ ap (λ n. take n shown) next in
    record {
      within = omega (arith, own-within bounds c.args.own.now c.requires.own at within, c.requires.same);
      sum = c.moved-sum.ensures;
      calls = subst (λ ys. ShowsBuckets g.F.FnMut c.args.f ys c.f.new.self) took
          (FoldsTo-push _ c.args.f (take k shown) c.loop-at.f (get_or shown k (pos 0, 0)) c.f.new.self c.loop-at.invariant.calls
          (subst (λ (b : ℤ × ℕ). Called g.F.FnMut c.loop-at.f (b.0, (b.1, tt)) tt c.f.new.self) bucket c.f.ensures));
    }

pub returns : goal.returns
returns g c =
    let bounds = c.args.bounds.now in let ranks = c.args.ranks.now in let order = c.args.order.now in
    let shown : List (ℤ × ℕ) = shown_at bounds ranks order in
    let long = length-map {B = ℤ × ℕ} order (λ i. get_or (buckets_of bounds ranks) i (pos 0, 0)) in
    let all = take_all c.loop-at.at-index shown (omega (arith, long, c.loop-at-test.false)) ∙ shown-in-order bounds order ranks c.requires.order in
    subst (λ bs. ShowsBuckets g.F.FnMut c.args.f bs c.loop-at.f) all c.loop-at.invariant.calls

pub offset_bounds-own-i : goal.offset_bounds-own-i
offset_bounds-own-i g c =
    let at = get_or c.args.order.now c.loop-at.at-index 0 in
    let within = place-within c.args.bounds.now c.args.order.now c.loop-at.at-index c.requires.order c.loop-at-test.true in
    let w : at < length c.args.own.now = omega (arith, own-length c.args.bounds.now c.args.own.now c.requires.own, within) in
    search rules

pub offset_bounds-bounds-i : goal.offset_bounds-bounds-i
offset_bounds-bounds-i g c =
    let at = get_or c.args.order.now c.loop-at.at-index 0 in
    let w : at < length c.args.bounds.now = place-within c.args.bounds.now c.args.order.now c.loop-at.at-index c.requires.order c.loop-at-test.true in
    search rules
