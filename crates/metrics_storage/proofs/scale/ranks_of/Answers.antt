use Rattle.std.proofs.Common.{◌≡◌, ℕ, suc, ◌+◌, ◌++◌, ◌∷◌, [], take, get_or, pos, ap, sym, ◌∙◌, arith, rules, w64}
use Rattle.std.proofs.Math.Facts.{to_z-of_z}
use Rattle.std.proofs.Math.Seq.{take-suc}
use Rattle.std.proofs.lemmas.List.{length-map}
use Rattle.metrics_storage.specs.Histogram.{rank, own_ranks}
use Rattle.metrics_storage.proofs.Counting.{get-map}
use Rattle.metrics_storage.proofs.scale.ranks_of.Goals as goal

pub loop-bound-smaller : goal.loop-bound-smaller
loop-bound-smaller c = omega (arith, c.loop-bound-test.true)

pub loop-bound-preserved : goal.loop-bound-preserved
loop-bound-preserved c =
    let bounds = c.args.bounds.now in let i = c.loop-bound.bound-index in let lt = c.loop-bound-test.true in
    let b = get_or bounds i (pos 0) in let next : suc i ≡ i + 1 = omega arith in
    let read = to_z-of_z {w = w64} {z = b} (search rules) in
    let own : c.rank_of.result ≡ get_or (own_ranks bounds) i 0 = c.rank_of.ensures.value ∙ ap (rank bounds) read ∙ sym (get-map (rank bounds) bounds i (pos 0) 0 lt) in
    let long = length-map {B = ℕ} bounds (rank bounds) in
    (c.in_ok-push.ensures {u = tt}).items ∙ (λ j. c.loop-bound.invariant j ++ own j ∷ [])
    ∙ sym (take-suc (own_ranks bounds) i 0 (omega (arith, long, lt))) ∙ ap (λ k. take k (own_ranks bounds)) next
