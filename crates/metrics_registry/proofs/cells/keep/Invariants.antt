use Rattle.std.proofs.Common.{◌≡◌, ◌≤◌, take, length}
use Rattle.metrics_registry.specs.Held.{CallsAtEntry, Retains}
use Rattle.metrics_registry.proofs.RetainLemmas.{SameFrom}
use Rattle.metrics_registry.proofs.cells.keep.Given as goal

abbrev pub invariant-loop-i : goal.invariant-loop-i
invariant-loop-i g l =
    (l.kept ≤ l.i)
    × (length l.map.entries ≡ length l.initial.map.entries)
    × Retains (λ p e b q. CallsAtEntry g.F.FnMut p e b q) l.initial.f (take l.i l.initial.map.entries) (take l.kept l.map.entries) l.f
    × SameFrom l.i l.initial.map.entries l.map.entries
