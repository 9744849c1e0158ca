use Rattle.metrics_registry.proofs.IdlenessLemmas.{table-gives-runs}
use Rattle.metrics_registry.proofs.laws.recency_law.Goals as goal

pub returns-clause-runs : goal.returns-clause-runs
returns-clause-runs g c = table-gives-runs g.K.PartialEq.eq g.met.K.Eq.laws
