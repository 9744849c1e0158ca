use Rattle.std.proofs.Common.{◌∙◌, ap, subst}
use Rattle.metrics_names.specs.Names.{KeyParts}
use Rattle.metrics_exposition.specs.Labels.{AreReady}
use Rattle.metrics_exposition.proofs.series.SeriesRefReadSeries.has_ready_labels.Goals as goal

pub returns : goal.returns
returns c = λ is. subst AreReady (c.labels.ensures ∙ ap (λ (k : KeyParts). k.labels) c.key.ensures) (c.are_ready.ensures is)
