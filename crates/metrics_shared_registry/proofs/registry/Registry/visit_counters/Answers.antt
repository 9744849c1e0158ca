use Rattle.std.proofs.Common.{[], refl}
use Rattle.metrics_registry.specs.Held.{CallsAtEntry}
use Rattle.metrics_shared_registry.specs.Made.{MadeBySome}
use Rattle.metrics_shared_registry.proofs.MadeLemmas.{walked-more}
use Rattle.metrics_shared_registry.proofs.registry.Registry.visit_counters.Goals as goal

pub loop-shard-init : goal.loop-shard-init
loop-shard-init g c = (([], tt, refl), c.requires)

pub loop-shard-preserved : goal.loop-shard-preserved
loop-shard-preserved g c = (
  walked-more (λ p e q. CallsAtEntry g.F.FnMut p e tt q) g.K.PartialEq.eq (MadeBySome g.S.Storage.makes_counter) _ c.loop-shard.f c.visit-f.result _ c.loop-shard.invariant.0 c.visit-f.ensures.made c.visit-f.ensures.calls,
  c.visit-f.ensures.callable,
)
