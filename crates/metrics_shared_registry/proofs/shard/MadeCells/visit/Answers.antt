use Rattle.metrics_registry.proofs.WalkLemmas.{always-takes}
use Rattle.metrics_shared_registry.proofs.MadeLemmas.{each-made}
use Rattle.metrics_shared_registry.proofs.shard.MadeCells.visit.Goals as goal

pub visit-requires : goal.visit-requires
visit-requires g c = always-takes g.F.FnMut c.args.f _ c.requires

pub returns-clause-made : goal.returns-clause-made
returns-clause-made g c = rw (← c.self.view_is) (each-made g.met.K.Eq.laws g.M.CellKind.makes c.self.inside.cells c.visit.ensures.once c.self.invariant)
