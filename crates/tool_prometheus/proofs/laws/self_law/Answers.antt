use Rattle.metrics_prometheus.proofs.CountLemmas.{number-left}
use Rattle.tool_prometheus.proofs.OwnLawLemmas.{same-number, kinds-own}
use Rattle.tool_prometheus.proofs.laws.self_law.Goals as goal

pub returns-clause-number : goal.returns-clause-number
returns-clause-number c = λ naming legend places cells text e. number-left cells text e

pub returns-clause-same : goal.returns-clause-same
returns-clause-same c = λ own held naming legend places cells first text before is.
    same-number c.exposition_law.ensures.one own held naming legend places cells first text before is

pub returns-clause-kinds : goal.returns-clause-kinds
returns-clause-kinds c = kinds-own
