use Rattle.std.proofs.Common.{◌∙◌}
use Rattle.metrics_exporter.specs.Exporting.{count, level, samples}
use Rattle.metrics_exporter.specs.Gathering.{cell_in}
use Rattle.metrics_exporter.proofs.PresenceLemmas.{some-cell}
use Rattle.metrics_exporter.proofs.keys.is_held.Goals as goal

pub returns-in-Counter : goal.returns-in-Counter
returns-in-Counter c = rw c.in-Counter.is (c.is_some.ensures ∙ some-cell (cell_in count) _ _ c.get_counter.ensures)

pub returns-in-Gauge : goal.returns-in-Gauge
returns-in-Gauge c = rw c.in-Gauge.is (c.is_some-in-Gauge.ensures ∙ some-cell (cell_in level) _ _ c.get_gauge.ensures)

pub returns-in-Histogram : goal.returns-in-Histogram
returns-in-Histogram c = rw c.in-Histogram.is (c.is_some-in-Histogram.ensures ∙ some-cell (cell_in samples) _ _ c.get_histogram.ensures)
