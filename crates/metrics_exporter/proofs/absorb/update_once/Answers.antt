use Rattle.std.proofs.Common.{List, [], ◌∷◌, ◌++◌, refl, sym, subst, append-nil}
use Rattle.metrics_exporter.specs.Exporting.{Event}
use Rattle.metrics_exporter.specs.Kept.{IsAfter}
use Rattle.metrics_exporter.proofs.AbsorbLemmas.{refuses, stops-in}
use Rattle.metrics_exporter.proofs.absorb.update_once.Goals as goal

pub returns-in-Err-clause-makes : goal.returns-in-Err-clause-makes
returns-in-Err-clause-makes c = λ setup log after.
    let P : List Event → Type 0 = λ l. IsAfter setup l c.args.on.now in
    let here : IsAfter setup (log ++ []) c.args.on.now = subst P (sym (append-nil log)) after in
    let e = c.in-Err.ensures in
    stops-in setup log c.args.key.now [] [] (c.args.by ∷ []) c.args.by c.in-Err.error 0 c.args.on.now c.update.new.self refl refl here e.err.1
    (refuses setup (log ++ []) c.args.key.now c.args.by _ c.in-Err.error refl (e.full setup (log ++ []) here) (e.absent setup (log ++ []) here) e.err.0)
