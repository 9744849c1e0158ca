use Rattle.metrics_local.proofs.KeepingLemmas.{place-says}
use Rattle.metrics_local.proofs.local.place_of.Goals as goal

pub returns : goal.returns
returns g c = place-says c.args.kept.now c.args.key.now c.place.result c.place.ensures
