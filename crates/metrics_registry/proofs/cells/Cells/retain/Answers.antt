use Rattle.std.proofs.Common.{subst, List}
use Rattle.metrics_registry.specs.Held.{CallsAtEntry, Retains}
use Rattle.metrics_registry.proofs.cells.Cells.retain.Goals as goal

pub returns-clause-retains : goal.returns-clause-retains
returns-clause-retains g c =
    let P : List (g.row.K.Denot × g.row.C.Denot) → Type 0 = λ es. Retains (λ p e b q. CallsAtEntry g.F.FnMut p e b q) c.args.f es c.keep.new.map.entries c.keep.result in
    subst P c.self.view_is c.keep.ensures.retains
