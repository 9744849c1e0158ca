use Rattle.metrics_bucket.specs.Account.{IsLooked}
use Rattle.tool_storm.proofs.ruled.push_waiting.Given as goal

abbrev pub invariant-loop : goal.invariant-loop
invariant-loop g l = IsLooked l.initial.pen l.pen
