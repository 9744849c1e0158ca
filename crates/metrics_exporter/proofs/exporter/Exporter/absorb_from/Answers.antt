use Rattle.std.proofs.Common.{Bool, List, subst}
use Rattle.metrics.specs.Book.{RowParts}
use Rattle.metrics_exporter.specs.Exporting.{Setup, Log}
use Rattle.metrics_exporter.specs.Kept.{IsAfter}
use Rattle.metrics_exporter.specs.Absorbing.{marked, AbsorbsRemaining}
use Rattle.metrics_exporter.proofs.exporter.Exporter.absorb_from.Goals as goal

pub returns-clause-absorbs : goal.returns-clause-absorbs
returns-clause-absorbs c =
    let P : List RowParts → List Bool → Type 0 = λ rows marks. (setup : Setup) (log : Log) → IsAfter setup log c.args.self.now → AbsorbsRemaining setup log c.args.part (marked rows marks) c.absorb_remaining.result c.absorb_remaining.new.on in
    subst (λ marks. P c.args.snapshot.now.rows marks) c.activity.ensures (subst (λ rows. P rows c.activity.result.now) c.as_slice.ensures c.absorb_remaining.ensures.absorbs)
