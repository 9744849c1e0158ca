use Rattle.metrics_bucket.proofs.Sound.{law}
use Rattle.metrics_bucket.proofs.law.bucket_law.Goals as goal

pub returns : goal.returns
returns c = law
