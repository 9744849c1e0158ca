use Rattle.metrics_shared_registry.proofs.ResultLemmas.{if-ok}
use Rattle.metrics_collector.proofs.collector.Collector.increment.Goals as goal

-- the cell that was updated is one of the key
pub returns-clause-key : goal.returns-clause-key
returns-clause-key g c = if-ok c.on_counter.result _ _ (λ v k. (k.0, k.1)) c.on_counter.ensures.called
