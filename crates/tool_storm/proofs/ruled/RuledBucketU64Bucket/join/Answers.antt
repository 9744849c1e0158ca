use Rattle.tool_storm.proofs.Accounts.{account_joined}
use Rattle.tool_storm.proofs.ruled.RuledBucketU64Bucket.join.Goals as goal

pub returns-clause-ok : goal.returns-clause-ok
returns-clause-ok c = account_joined c.args.pen.now c.args.other c.join.new.self c.join.ensures
