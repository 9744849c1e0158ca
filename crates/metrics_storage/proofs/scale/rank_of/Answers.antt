use Rattle.std.proofs.Common.{◌≡◌, ◌+◌, get_or, pos, cond, refl, ap, sym, ◌∙◌, rules, w64, to_z, of_z}
use Rattle.std.specs.Prelude.{Bool, true, false, int_lt}
use mir.Val.{bool_byte}
use Rattle.std.proofs.Math.Facts.{to_z-of_z}
use Rattle.metrics_storage.proofs.Counting.{rank-next}
use Rattle.metrics_storage.proofs.scale.rank_of.Goals as goal

byte_is : (b : Bool) → bool_byte b ≡ cond b 1 0
byte_is true = refl
byte_is false = refl

pub loop-bound-preserved : goal.loop-bound-preserved
loop-bound-preserved c =
    let bounds = c.args.bounds.now in let i = c.loop-bound.bound-index in
    let b = get_or bounds i (pos 0) in let x = to_z w64 (of_z w64 c.args.sample) in
    let read : to_z w64 (of_z w64 b) ≡ b = to_z-of_z {w = w64} {z = b} (search rules) in
    let step : c.from-rank.result ≡ cond (int_lt b x) 1 0 = c.from-rank.ensures ∙ byte_is (int_lt (to_z w64 (of_z w64 b)) x) ∙ ap (λ z. cond (int_lt z x) 1 0) read in
    (λ j. c.loop-bound.invariant j + step j) ∙ sym (rank-next bounds x i c.loop-bound-test.true)
