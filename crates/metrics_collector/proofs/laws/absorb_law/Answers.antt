use Rattle.metrics_collector.proofs.MergingLemmas.{either-order}
use Rattle.metrics_collector.proofs.OrderLemmas.{either-text}
use Rattle.metrics_collector.proofs.laws.absorb_law.Goals as goal

pub returns-clause-readings : goal.returns-clause-readings
returns-clause-readings c = either-order

pub returns-clause-texts : goal.returns-clause-texts
returns-clause-texts c = either-text
