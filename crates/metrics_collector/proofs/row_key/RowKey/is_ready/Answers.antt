use Rattle.std.proofs.Common.{Some, ap, subst, ◌∙◌}
use Rattle.metrics_names.specs.Names.{KeyParts}
use Rattle.metrics_exposition.specs.Labels.{AreReady}
use Rattle.metrics_collector.proofs.row_key.RowKey.is_ready.Goals as goal

pub returns-in-Some : goal.returns-in-Some
returns-in-Some c = λ is. subst AreReady (ap (λ (k : KeyParts). k.labels) c.self.view_is) (c.self.invariant (c.in-Some.is ∙ ap Some is))
