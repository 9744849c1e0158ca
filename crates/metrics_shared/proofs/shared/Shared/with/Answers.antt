use Rattle.std.proofs.Common.{refl}
use Rattle.metrics_shared.proofs.shared.Shared.with.Goals as goal

pub returns : goal.returns
returns g c = (_, _, record { shown = _; shows = refl; left = _; met = c.f.ensures; leaves = refl })
