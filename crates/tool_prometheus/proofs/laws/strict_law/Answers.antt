use Rattle.tool_prometheus.proofs.StrictLemmas.{name-stays, label-stays, leaves-short}
use Rattle.tool_prometheus.proofs.laws.strict_law.Goals as goal

pub returns-clause-names : goal.returns-clause-names
returns-clause-names c = name-stays

pub returns-clause-labels : goal.returns-clause-labels
returns-clause-labels c = label-stays

pub returns-clause-left_out : goal.returns-clause-left_out
returns-clause-left_out c = λ naming legend places cells text e. leaves-short cells text e
