-- The patterns so far.
use Rattle.std.proofs.Common.{◌≡◌, take}
use Rattle.tool_trees.proofs.building.filter_layer.Given as goal

abbrev pub invariant-loop-pattern : goal.invariant-loop-pattern
invariant-loop-pattern l = l.layer ≡ record { listed = take l.pattern-index l.patterns; fold_case = l.fold; table = l.table }
