use Rattle.std.proofs.Common.{◌∙◌, ap, is_some}
use Rattle.metrics_exporter.specs.Gathering.{series_at}
use Rattle.metrics_exporter.proofs.exporter.Exporter.holds.Goals as goal

pub returns : goal.returns
returns c = λ setup log after. c.is_held.ensures ∙ ap is_some (after.cells (series_at c.args.kind c.args.key.now))
