-- What is added, and what is left.
use Rattle.std.proofs.Common.{◌≡◌, ◌++◌, length}
use Rattle.metrics_trees.specs.Builders.{fanout_recorders}
use Rattle.tool_trees.specs.Doing.{level_meanings}
use Rattle.tool_trees.proofs.building.fanout_over.Given as goal

abbrev pub invariant-loop-child : goal.invariant-loop-child
invariant-loop-child l = fanout_recorders l.builder ++ level_meanings l.taken.items ≡ level_meanings l.initial.taken.items

abbrev pub decreases-loop-child : goal.decreases-loop-child
decreases-loop-child l = length l.taken.items
