use Rattle.std.proofs.Common.{rules}
use Rattle.tool_export.proofs.PlanLemmas.{letters_or_dash}
use Rattle.tool_export.proofs.plans.watched_of.Goals as goal

pub returns : goal.returns
returns c = letters_or_dash c.kinds_of.result c.args.word.now (search rules) c.kinds_of.ensures
