use Rattle.metrics_bucket.proofs.AllowedVisits.{reads_value}
use Rattle.metrics_bucket.proofs.bucket.RuledBucket.read_place.Goals as goal

pub load-bits-requires : goal.load-bits-requires
load-bits-requires g c = (c.requires.home.0, c.requires.word.0, reads_value _ _ _ _ c.requires.home.1 c.args.at _ _ c.requires.word.1 c.requires.visit)

pub returns : goal.returns
returns g c = (c.load-bits.result, c.of_word.ensures, c.load-bits.ensures.0, c.load-bits.ensures.2 c.args.at c.requires.word.1 c.requires.visit)
