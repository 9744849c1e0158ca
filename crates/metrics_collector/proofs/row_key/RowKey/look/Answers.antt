use Rattle.std.proofs.Common.{Bool, false, Option, None, Some, ap, subst}
use Rattle.metrics_exposition.specs.Labels.{AreReady}
use Rattle.metrics_collector.proofs.row_key.RowKey.look.Goals as goal

abbrev found : Option Bool → Bool
found None = false
found (Some is_ready) = is_ready

pub invariant_of-self : goal.invariant_of-self
invariant_of-self c = λ is. subst AreReady c.labels.ensures (c.are_ready.ensures (ap found is))
