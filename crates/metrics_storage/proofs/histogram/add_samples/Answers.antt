use Rattle.std.proofs.Common.{◌≡◌, suc, ◌+◌, take, get_or, pos, ap, sym, ◌∙◌, arith, rules, w64}
use Rattle.std.proofs.Math.Facts.{to_z-of_z}
use Rattle.std.proofs.Math.Seq.{take-suc}
use Rattle.std.proofs.lemmas.List.{length-take-le}
use Rattle.metrics_storage.specs.Histogram.{total, ranked, all_ranked}
use Rattle.metrics_storage.proofs.Counting.{total-all_ranked, all_ranked-more}
use Rattle.metrics_storage.proofs.histogram.add_samples.Goals as goal

pub add_sample-requires-clause-room : goal.add_sample-requires-clause-room
add_sample-requires-clause-room c =
    let bounds = c.args.bounds.now in let samples = c.args.samples.now in let ranks = c.args.ranks.now in let i = c.loop-sample.sample-index in let lt = c.loop-sample-test.true in
    let is = ap total c.loop-sample.invariant ∙ total-all_ranked bounds (take i samples) ranks c.requires.same in
    omega (arith, is, length-take-le i samples (omega (arith, lt)), lt, c.requires.room)

pub loop-sample-preserved : goal.loop-sample-preserved
loop-sample-preserved c =
    let bounds = c.args.bounds.now in let samples = c.args.samples.now in let ranks = c.args.ranks.now in let i = c.loop-sample.sample-index in
    let x = get_or samples i (pos 0) in let next : suc i ≡ i + 1 = omega arith in
    let read = to_z-of_z {w = w64} {z = x} (search rules) in
    c.add_sample.ensures ∙ (λ j. ranked bounds (read j) (c.loop-sample.invariant j)) ∙ sym (all_ranked-more bounds (take i samples) x ranks)
    ∙ ap (λ l. all_ranked bounds l ranks) (sym (take-suc samples i (pos 0) c.loop-sample-test.true) ∙ ap (λ k. take k samples) next)
