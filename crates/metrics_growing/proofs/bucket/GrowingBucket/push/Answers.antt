use Rattle.std.proofs.Common.{rules, suc, refl}
use Rattle.metrics_growing.specs.Parts.{OnlyLooks, PassedAll, Pushed, LosesRace}
use Rattle.metrics_growing.proofs.Chains.{looks_trans, races_look, passed_trans}
use Rattle.metrics_growing.proofs.bucket.GrowingBucket.push.Goals as goal

pub loop-init : goal.loop-init
loop-init g c = (search rules, search rules, search rules, (0, refl))

pub returns-in-Ok-clause-ok : goal.returns-in-Ok-clause-ok
returns-in-Ok-clause-ok g c =
    let lost = c.loop.invariant.3 in
    let p : Pushed (g.T.Sample.word c.args.value) c.loop.pen c.try_push.new.pen = search rules in
    (lost.0, c.loop.pen, lost.1, p)

pub loop-preserved : goal.loop-preserved
loop-preserved g c =
    let lost = c.loop.invariant.3 in
    let race : LosesRace c.loop.pen c.try_push.new.pen = search rules in
    (search rules, search rules, search rules, (suc lost.0, (c.loop.pen, lost.1, race)))

pub returns-in-Err : goal.returns-in-Err
returns-in-Err g c =
    let lost = c.loop.invariant.3 in
    let k = races_look lost.0 c.args.pen.now c.loop.pen lost.1 in
    let m : OnlyLooks c.loop.pen c.try_push.new.pen = search rules in
    let all : PassedAll c.loop.pen c.try_push.new.pen = search rules in
    record { own = search rules; ok = tt; err = (looks_trans c.args.pen.now c.loop.pen c.try_push.new.pen k m, search rules, passed_trans c.args.pen.now c.loop.pen c.try_push.new.pen k all, search rules) }
