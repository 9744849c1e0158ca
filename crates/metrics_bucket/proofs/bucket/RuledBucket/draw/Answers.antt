use Rattle.std.proofs.Common.{rules}
use Rattle.metrics_bucket.proofs.Allowed.{looks}
use Rattle.metrics_bucket.proofs.bucket.RuledBucket.draw.Goals as goal

pub load-found-requires : goal.load-found-requires
load-found-requires g c = (search rules, search rules, looks _ _ _ _ _ c.requires.home.2)
