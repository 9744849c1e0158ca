use Rattle.std.proofs.Common.{List, ◌≡◌, ℤ, ℕ, suc, ◌+◌, ◌≤◌, ◌++◌, ◌∷◌, [], length, take, get_or, pos, ap, sym, ◌∙◌, arith, rules, w64, to_z, of_z}
use Rattle.std.proofs.Math.Facts.{to_z-of_z}
use Rattle.std.proofs.Math.Seq.{take-suc}
use Rattle.metrics_storage.specs.Histogram.{buckets_of}
use Rattle.metrics_storage.proofs.Counting.{own-length, own-within, bucket-at, buckets-length}
use Rattle.metrics_storage.proofs.histogram.bucket_counts.Goals as goal

pub bounds-own-i : goal.bounds-own-i
bounds-own-i c = omega (arith, own-length c.args.bounds.now c.args.own.now c.requires.own, c.loop-i-test.true)

pub bounds-bounds-i : goal.bounds-bounds-i
bounds-bounds-i c = c.loop-i-test.true

pub loop-i-smaller : goal.loop-i-smaller
loop-i-smaller c = omega (arith, c.loop-i-test.true)

pub overflow_add-next : goal.overflow_add-next
overflow_add-next c =
    let w : get_or c.args.own.now c.loop-i.i 0 + 1 ≤ length c.args.ranks.now = omega (arith, own-within c.args.bounds.now c.args.own.now c.requires.own c.loop-i.i c.loop-i-test.true, c.requires.same) in
    search rules

pub moved-sum-requires-clause-within : goal.moved-sum-requires-clause-within
moved-sum-requires-clause-within c = (c.loop-i.invariant.within, omega (arith, own-within c.args.bounds.now c.args.own.now c.requires.own c.loop-i.i c.loop-i-test.true, c.requires.same))

pub loop-i-preserved : goal.loop-i-preserved
loop-i-preserved c =
    let bounds = c.args.bounds.now in let ranks = c.args.ranks.now in let i = c.loop-i.i in let lt = c.loop-i-test.true in
    let x = get_or bounds i (pos 0) in let sum = c.moved-sum.result in let next : suc i ≡ i + 1 = omega arith in
    let bs : List (ℤ × ℕ) = buckets_of bounds ranks in
    let read : to_z w64 (of_z w64 x) ≡ x = to_z-of_z {w = w64} {z = x} (search rules) in
    let bucket : (to_z w64 (of_z w64 x), sum) ≡ get_or bs i (pos 0, 0) = (λ j. (read j, sum)) ∙ bucket-at bounds c.args.own.now c.requires.own ranks i sum lt c.moved-sum.ensures in
    record {
      within = omega (arith, own-within bounds c.args.own.now c.requires.own i lt, c.requires.same);
      sum = c.moved-sum.ensures;
      bucket_counts = (c.in_ok-push.ensures {u = tt}).items ∙ (λ j. c.loop-i.invariant.bucket_counts j ++ bucket j ∷ [])
          ∙ sym (take-suc bs i (pos 0, 0) (omega (arith, buckets-length bounds ranks, lt))) ∙ ap (λ k. take k bs) next;
    }
