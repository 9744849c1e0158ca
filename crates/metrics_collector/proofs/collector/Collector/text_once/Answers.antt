use Rattle.metrics_prometheus.proofs.TextLemmas.{with-first}
use Rattle.metrics_collector.proofs.collector.Collector.text_once.Goals as goal

pub returns-clause-text : goal.returns-clause-text
returns-clause-text g c =
    let d = c.in_ok-counted.ensures.text in
    with-first c.ended.result _ _ (λ all e. (d.0, d.1, d.2, d.3, (_, d.4, e))) c.ended.ensures.ok
