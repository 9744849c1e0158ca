use Rattle.std.proofs.Common.{◌≡◌, ◌∙◌, ◌++◌, [], List, ap, subst, string_bytes}
use Rattle.metrics_prometheus.proofs.TextLemmas.{with-first}
use Rattle.metrics_collector.specs.declared.gathered.GatheredSeries.{GatheredSeries}
use Rattle.metrics_collector.specs.LeftOut.{IsEnded}
use Rattle.metrics_collector.specs.Repeats.{repeated_lines}
use Rattle.metrics_collector.proofs.collector.Collector.text_of.Goals as goal

pub returns-clause-text : goal.returns-clause-text
returns-clause-text g c =
    let on = c.args.self.now in
    let d = c.in_ok-counted.ensures.text in
    let lines : string_bytes c.in_ok-all.all.text ≡ string_bytes c.in_ok-counted.counted.text ++ repeated_lines [] c.args.gathered.now.series.items =
    c.in_ok-all.ensures.ok ∙ ap (λ (rows : List GatheredSeries). string_bytes c.in_ok-counted.counted.text ++ repeated_lines [] rows) c.deref.ensures.value in
    with-first c.ended.result _ _
    (λ all e. (d.0, d.1, d.2, d.3, (_, d.4, subst (λ b. IsEnded on.has_left_out_gauge on.labels.items b (string_bytes all)) lines e)))
    c.ended.ensures.ok
