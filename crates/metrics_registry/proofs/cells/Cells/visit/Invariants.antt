use Rattle.std.proofs.Common.{map}
use Rattle.std.specs.List.{FoldsTo}
use Rattle.std.specs.Map.Iter.{deref_pair}
use Rattle.metrics_registry.specs.Held.{CallsAtEntry}
use Rattle.metrics_registry.proofs.cells.Cells.visit.Given as goal

abbrev pub invariant-loop-key : goal.invariant-loop-key
invariant-loop-key g l = FoldsTo (λ p e q. CallsAtEntry g.F.FnMut p e tt q) l.initial.f (map deref_pair l.yielded) l.f
