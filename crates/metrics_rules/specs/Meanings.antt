-- What rules mean.
use Rattle.metrics.specs.Meaning.{Meaning}
use Rattle.metrics_rules.specs.Nodes.{node_meaning}
use Rattle.metrics_rules.specs.declared.rules.Rules.{Rules}

-- the targets of each name; each leaf is meant as a new book
abbrev pub rules_meaning : Rules → Meaning
rules_meaning r = node_meaning r.node
