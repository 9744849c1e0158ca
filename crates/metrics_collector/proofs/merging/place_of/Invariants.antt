-- No row so far is of the series.
use Rattle.std.proofs.Common.{◌≡◌, ℕ, ◌<◌, false, get_or}
use Rattle.metrics_collector.specs.declared.gathered.GatheredSeries.{GatheredSeries}
use Rattle.metrics_collector.specs.Merging.{are_same}
use Rattle.metrics_collector.proofs.merging.place_of.Given as goal

abbrev pub invariant-loop-place : goal.invariant-loop-place
invariant-loop-place l = (k : ℕ) (d : GatheredSeries) → k < l.place → are_same l.row (get_or l.rows k d) ≡ false
