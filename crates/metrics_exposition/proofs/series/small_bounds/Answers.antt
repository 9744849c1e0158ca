use Rattle.metrics_exposition.proofs.KindLemmas.{small-buckets}
use Rattle.metrics_exposition.proofs.series.small_bounds.Goals as goal

pub returns : goal.returns
returns c = small-buckets c.args.histogram.now c.bounds.ensures.fits
