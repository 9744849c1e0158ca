use Rattle.metrics_storage.proofs.Merging.{merging-adds}
use Rattle.metrics_storage.proofs.Ascending.{ascending-in-order}
use Rattle.metrics_storage.proofs.laws.histogram_law.Goals as goal

pub returns-clause-merging : goal.returns-clause-merging
returns-clause-merging c = merging-adds

pub returns-clause-ascending : goal.returns-clause-ascending
returns-clause-ascending c = ascending-in-order
