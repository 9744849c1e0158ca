use Rattle.std.proofs.Common.{subst, sym}
use Rattle.metrics_registry.specs.Held.{held}
use Rattle.metrics_shared_registry.specs.Made.{IsMadeFor}
use Rattle.metrics_shared_registry.proofs.MadeLemmas.{made-call}
use Rattle.metrics_shared_registry.proofs.ResultLemmas.{if-ok}
use Rattle.metrics_shared_registry.proofs.shard.MadeCells.get_or_insert.Goals as goal

pub returns-clause-called : goal.returns-clause-called
returns-clause-called g c =
    let eq = g.K.PartialEq.eq in
    let Makes = g.M.CellKind.makes in
    let key = c.args.key.now in
    if-ok c.change_or_create.result _ _ (λ v k. (
      k.3.shown.now,
      subst (λ x. IsMadeFor eq Makes key x) (sym k.3.shows) (made-call g.met.K.Eq.laws Makes key (held eq c.self.inside.cells key) c.args.cell k.0 (c.self.invariant key) c.requires.made k.2),
      k.3.met.0,
    )) c.change_or_create.ensures.ok
