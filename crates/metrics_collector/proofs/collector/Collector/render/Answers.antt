use Rattle.metrics_prometheus.proofs.TextLemmas.{with-first}
use Rattle.metrics_collector.proofs.collector.Collector.render.Goals as goal

pub returns-clause-text : goal.returns-clause-text
returns-clause-text g c = with-first c.text_once-text.result _ _ (λ text h. (h.0, c.in_ok-gathered.gathered, h.1, h.2, h.3, h.4)) c.text_once-text.ensures.text
