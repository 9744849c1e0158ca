use Rattle.std.proofs.Common.{sym, ◌∙◌, subst}
use Rattle.metrics.specs.Answering.{AllHeld}
use Rattle.metrics.proofs.HandlesLemmas.{held-all}
use Rattle.metrics.proofs.handles.update_all.Goals as goal

pub update_held-requires : goal.update_held-requires
update_held-requires g c =
    let cs = (g.R.Recorder.meaning c.args.on.now).contents in
    subst (λ k. AllHeld k c.args.found.now cs) c.kind.ensures
    (held-all c.kind.result c.args.found.now cs (sym c.are_held.ensures ∙ c.if-are_held.true))
