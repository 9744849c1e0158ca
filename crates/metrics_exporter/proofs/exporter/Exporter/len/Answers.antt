use Rattle.std.proofs.Common.{subst}
use Rattle.metrics_exporter.specs.Exporting.{Cells, IsHeldNumber}
use Rattle.metrics_exporter.proofs.exporter.Exporter.len.Goals as goal

pub returns : goal.returns
returns c = λ setup log after.
    let n = c.held_number.ensures in
    let P : Cells → Type 0 = λ cells. IsHeldNumber cells n.0 in
    (n.0, subst P (λ i s. after.cells s i) n.1, n.2)
