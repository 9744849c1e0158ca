use Rattle.tool_storm.proofs.Parts.{parts_pushed}
use Rattle.tool_storm.proofs.growing.GrowingBucketU64Bucket.push_one.Goals as goal

pub returns-in-Ok-clause-ok : goal.returns-in-Ok-clause-ok
returns-in-Ok-clause-ok g c = parts_pushed c.args.pen.now c.push.new.pen c.args.value c.in-Ok.ensures.ok
