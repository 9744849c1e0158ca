use Rattle.std.proofs.Common.{◌≡◌, take, false, true}
use Rattle.tool_prometheus.proofs.names.filter_of.Given as goal

abbrev pub invariant-loop-text : goal.invariant-loop-text
invariant-loop-text l = l.layer ≡ record { listed = take l.text-index l.drops; fold_case = false; table = true }
