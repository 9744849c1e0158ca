use Rattle.metrics_prometheus.proofs.rows.row_of.Goals as goal

pub returns-clause-texts : goal.returns-clause-texts
returns-clause-texts g c = c.in_ok-labels.ensures.texts
