use Rattle.std.proofs.Common.{map}
use Rattle.std.specs.Map.Iter.{deref_pair}
use Rattle.std.specs.HashMap.{get}
use Rattle.metrics_registry.specs.Held.{Copies}
use Rattle.metrics_registry.proofs.cells.Cells.copy_into.Given as goal

abbrev pub invariant-loop-key : goal.invariant-loop-key
invariant-loop-key g l = Copies g.K.PartialEq.eq g.C.Clone.is_clone (map deref_pair l.yielded) (get g.K.PartialEq.eq l.initial.handles) (get g.K.PartialEq.eq l.handles)
