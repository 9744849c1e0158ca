-- What was taken was at the end.
use Rattle.std.proofs.Common.{◌≡◌, ◌++◌, length}
use Rattle.tool_trees.specs.Doing.{most_of}
use Rattle.tool_trees.proofs.building.take_top.Given as goal

abbrev pub invariant-loop-number : goal.invariant-loop-number
invariant-loop-number l = record {
  split : l.initial.stack.items ≡ l.stack.items ++ l.taken.items;
  number : length l.taken.items ≡ l._number;
  most : l.most ≡ most_of l.taken.items;
}
