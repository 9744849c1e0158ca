use Rattle.std.proofs.Common.{◌≡◌, ◌-◌, ◌^◌, min, map, take}
use Rattle.metrics_trees.specs.Recorders.{books_in}
use Rattle.metrics_trees.proofs.row.are_few.Given as goal

abbrev pub invariant-loop-recorder : goal.invariant-loop-recorder
invariant-loop-recorder g l = l.books ≡ min (books_in (map g.B.Recorder.meaning (take l.recorder-index l.recorders))) (2 ^ 64 - 1)
