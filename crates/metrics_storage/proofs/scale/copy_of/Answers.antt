use Rattle.std.proofs.Common.{◌≡◌, suc, ◌+◌, ◌++◌, ◌∷◌, [], take, get_or, pos, ap, sym, ◌∙◌, arith, rules, w64}
use Rattle.std.specs.Prelude.{FitsSigned}
use Rattle.std.proofs.Math.Facts.{to_z-of_z}
use Rattle.std.proofs.Math.Seq.{take-suc}
use Rattle.std.proofs.lemmas.List.Elements.{All-more}
use Rattle.metrics_storage.proofs.scale.copy_of.Goals as goal

pub loop-bound-preserved : goal.loop-bound-preserved
loop-bound-preserved c =
    let bounds = c.args.bounds.now in let i = c.loop-bound.bound-index in let lt = c.loop-bound-test.true in
    let b = get_or bounds i (pos 0) in let next : suc i ≡ i + 1 = omega arith in
    let fits : FitsSigned w64 b = search rules in
    let read = to_z-of_z {w = w64} {z = b} fits in
    record {
      same = (c.in_ok-push.ensures {u = tt}).items ∙ (λ j. c.loop-bound.invariant.same j ++ read j ∷ []) ∙ sym (take-suc bounds i (pos 0) lt) ∙ ap (λ k. take k bounds) next;
      fits = All-more (FitsSigned w64) bounds i (pos 0) lt c.loop-bound.invariant.fits fits;
    }
