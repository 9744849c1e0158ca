use Rattle.metrics_registry.proofs.WalkLemmas.{always-takes}
use Rattle.metrics_shared_registry.proofs.MadeLemmas.{made-kept}
use Rattle.metrics_shared_registry.proofs.shard.MadeCells.retain.Goals as goal

pub retain-requires : goal.retain-requires
retain-requires g c = always-takes g.F.FnMut c.args.f _ c.requires

pub invariant_of-self : goal.invariant_of-self
invariant_of-self g c = made-kept g.met.K.Eq.laws g.M.CellKind.makes _ c.args.f c.retain.result c.self.inside.cells c.retain.new.self c.retain.ensures.once.0 c.self.invariant c.retain.ensures.retains
