use Rattle.std.proofs.Common.{List, map, ap, subst}
use Rattle.metrics_exporter.specs.Readings.{KeyedReading, AreOnce}
use Rattle.metrics_prometheus.proofs.TextLemmas.{with-first}
use Rattle.metrics_collector.specs.Gathering.{keyed_gathered}
use Rattle.metrics_collector.proofs.collector.Collector.described.Goals as goal

pub returns-clause-text : goal.returns-clause-text
returns-clause-text g c =
    with-first c.counted_exposition_of.result _ _
    (λ counted h. (_, h.0, subst (λ (keyed : List KeyedReading). AreOnce keyed h.0) (ap (map keyed_gathered) c.deref-2.ensures.value) h.1, h.2, h.3))
    c.counted_exposition_of.ensures.each
