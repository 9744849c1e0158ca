use Rattle.std.proofs.Common.{◌∙◌, ap}
use Rattle.metrics_exporter.specs.Choice.{bounds_in}
use Rattle.metrics_exporter.proofs.exporter.Exporter.bounds.Goals as goal

pub returns : goal.returns
returns c = λ setup log after unit name.
    ap (λ b. bounds_in b unit name) c.bounds.ensures ∙ ap (λ s. bounds_in s.bounds unit name) c.storage.ensures ∙ after.bounds unit name
