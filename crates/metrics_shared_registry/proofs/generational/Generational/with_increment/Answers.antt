use Rattle.std.proofs.Common.{refl}
use Rattle.metrics_shared_registry.proofs.generational.Generational.with_increment.Goals as goal

pub returns : goal.returns
returns g c = record { shown = _; shows = refl; says = record { met = c.f-answer.ensures } }
