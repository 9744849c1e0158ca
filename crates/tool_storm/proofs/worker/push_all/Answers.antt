use Rattle.std.proofs.Common.{rules, [], ◌∷◌}
use Rattle.tool_storm.specs.Pens.{HasPushed}
use Rattle.tool_storm.proofs.Joining.{pushed_next}
use Rattle.tool_storm.proofs.TallyLemmas.{tells_next}
use Rattle.tool_storm.proofs.worker.push_all.Goals as goal

pub loop-value-preserved : goal.loop-value-preserved
loop-value-preserved g c =
    let was = c.loop-value.invariant in
    let bags = g.B.Bucket.bags in
    let push : HasPushed (bags c.loop-value.pen) (c.loop-value.value ∷ []) (bags c.push_one.new.pen) = search rules in (
      c.push_one.ensures.own,
      pushed_next (bags c.args.pen.now) (bags c.loop-value.pen) (bags c.push_one.new.pen) c.loop-value.value was.1 push,
      tells_next c.loop-value.pushed c.add.new.self c.loop-value.value was.2 c.add.ensures,
    )
