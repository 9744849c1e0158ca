use Rattle.tool_storm.proofs.Accounts.{account_pushed}
use Rattle.tool_storm.proofs.ruled.RuledBucketU64Bucket.push_one.Goals as goal

pub returns-clause-ok : goal.returns-clause-ok
returns-clause-ok g c = account_pushed c.args.pen.now c.push_waiting.new.pen c.args.value c.push_waiting.ensures
