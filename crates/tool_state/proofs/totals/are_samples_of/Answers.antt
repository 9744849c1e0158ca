use Rattle.std.proofs.Common.{◌≡◌, ◌<◌, length, rules}
use Rattle.metrics_storage.specs.Histogram.{sum_of}
use Rattle.tool_state.specs.Runs.{samples_in}
use Rattle.tool_state.proofs.RunLemmas.{are-samples}
use Rattle.tool_state.proofs.totals.are_samples_of.Goals as goal

pub returns : goal.returns
returns c =
    let number : (0 < c.count.result) × (c.count.result ≡ length (samples_in c.args.runs.now)) = search rules in
    let sum : c.sum.result ≡ sum_of (samples_in c.args.runs.now) = search rules in
    λ h. are-samples c.args.runs.now c.args.histogram.now c.args.buckets.now c.count.result c.sum.result c.requires c.count.ensures c.sum.ensures number sum (c.has_counts.ensures h)
