use Rattle.std.proofs.Common.{ap, ◌∙◌, arith}
use Rattle.metrics_storage.specs.Histogram.{total}
use Rattle.metrics_storage.proofs.histogram.Histogram.buckets.Goals as goal

pub bucket_counts-requires-clause-fits : goal.bucket_counts-requires-clause-fits
bucket_counts-requires-clause-fits c = let h = c.self.invariant in let is = ap total c.deref-3.ensures.value ∙ h.1 in omega (arith, is, h.2)
