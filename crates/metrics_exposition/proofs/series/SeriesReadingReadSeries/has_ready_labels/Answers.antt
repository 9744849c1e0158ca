use Rattle.std.proofs.Common.{subst}
use Rattle.metrics_exposition.specs.Labels.{AreReady}
use Rattle.metrics_exposition.proofs.series.SeriesReadingReadSeries.has_ready_labels.Goals as goal

pub returns : goal.returns
returns c = λ is. subst AreReady c.labels.ensures (c.are_ready.ensures is)
