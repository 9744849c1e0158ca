use Rattle.std.proofs.Common.{◌≡◌, ◌++◌, length}
use Rattle.std.specs.Vec.Iter.{into_iter_items}
use Rattle.metrics_rules.specs.Branches.{HasSpare}
use Rattle.metrics_trees.proofs.row.Row.append_reserved.Given as goal

abbrev pub invariant-loop-recorder : goal.invariant-loop-recorder
invariant-loop-recorder g l = record {
  ready : (goal.iterator-loop-recorder g).can_next l.recorder-iterator × (goal.iterator-loop-recorder g).is_finite l.recorder-iterator;
  items : l.self.recorders.items ++ into_iter_items l.recorder-iterator ≡ l.initial.self.recorders.items ++ l.fn.recorders.items;
  spare : HasSpare (length (into_iter_items l.recorder-iterator)) l.self.recorders l.self.starts;
}
