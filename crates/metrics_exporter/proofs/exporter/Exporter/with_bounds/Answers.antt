use Rattle.std.proofs.Common.{◌∙◌, ap}
use Rattle.metrics_exporter.specs.Choice.{bounds_in}
use Rattle.metrics_exporter.specs.Kept.{SeriesRegistry}
use Rattle.metrics_exporter.proofs.KeptLemmas.{new-keeps}
use Rattle.metrics_exporter.proofs.exporter.Exporter.with_bounds.Goals as goal

pub returns-clause-ok : goal.returns-clause-ok
returns-clause-ok c =
    let registry = c.in_ok-registry.ensures.ok.1 in
    new-keeps _ _ (λ unit name. ap (λ (r : SeriesRegistry). bounds_in r.storage.bounds unit name) registry ∙ ap (λ b. bounds_in b unit name) c.new.ensures) c.new-recency.ensures.rules
    (ap (λ (r : SeriesRegistry). r.counters) registry) (ap (λ (r : SeriesRegistry). r.gauges) registry) (ap (λ (r : SeriesRegistry). r.histograms) registry)
    c.new-recency.ensures.empty c.recency_law.ensures.runs
