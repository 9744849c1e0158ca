use Rattle.std.proofs.Common.{refl}
use Rattle.tool_storm.proofs.Joining.{ran_for, totals_are}
use Rattle.tool_storm.proofs.totals.storm_on.Goals as goal

pub returns-clause-pushed : goal.returns-clause-pushed
returns-clause-pushed g c =
    let ran = c.in_ok-ran.ran in
    let count = c.in_ok-shared.ensures.count in
    let k = ran_for _ _ _ _ _ _ (g.B.Bucket.bags ran.pen) ran.pushed ran.found ran.stopped count.1 refl count.0 c.in_ok-ran.ensures.ok in
    let t = totals_are c.args.pushers c.args.values _ (g.B.Bucket.bags ran.pen) ran.pushed ran.found ran.stopped k c.requires.pushers.1 c.requires.values in
    λ i. (t.0 i, t.1 i)
