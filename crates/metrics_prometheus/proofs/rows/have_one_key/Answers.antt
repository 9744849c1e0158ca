use Rattle.metrics_prometheus.proofs.rows.have_one_key.Goals as goal

pub returns-in-len1-up : goal.returns-in-len1-up
returns-in-len1-up c = λ is. (c.as_slice.result.now, c.have_key.ensures is)
