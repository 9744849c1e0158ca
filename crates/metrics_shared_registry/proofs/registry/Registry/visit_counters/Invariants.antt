use denote.Param.Always.{always_mut}
use Rattle.metrics_registry.specs.Held.{CallsAtEntry}
use Rattle.metrics_shared_registry.specs.Made.{MadeBySome}
use Rattle.metrics_shared_registry.proofs.MadeLemmas.{Walked}
use Rattle.metrics_shared_registry.proofs.registry.Registry.visit_counters.Given as goal

abbrev pub invariant-loop-shard : goal.invariant-loop-shard
invariant-loop-shard g l = Walked (λ p e q. CallsAtEntry g.F.FnMut p e tt q) g.K.PartialEq.eq (MadeBySome g.S.Storage.makes_counter) l.initial.f l.f × always_mut g.F.FnMut l.f
