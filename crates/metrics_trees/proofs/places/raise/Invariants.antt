use Rattle.std.proofs.Common.{◌≡◌, ◌++◌, take, drop}
use Rattle.metrics_trees.specs.Places.{raised}
use Rattle.metrics_trees.proofs.places.raise.Given as goal

abbrev pub invariant-loop-at : goal.invariant-loop-at
invariant-loop-at l = l.at-items ≡ raised l.front (take l.at-index l.initial.at-items) ++ drop l.at-index l.initial.at-items
