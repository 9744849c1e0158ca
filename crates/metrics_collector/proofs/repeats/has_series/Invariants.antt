-- No row so far is of the series.
use Rattle.std.proofs.Common.{◌≡◌, drop}
use Rattle.std.specs.List.{list_any}
use Rattle.metrics_collector.specs.Merging.{are_same}
use Rattle.metrics_collector.proofs.repeats.has_series.Given as goal

abbrev pub invariant-loop-other : goal.invariant-loop-other
invariant-loop-other l = list_any (are_same l.row) (drop l.other-index l.rows) ≡ list_any (are_same l.row) l.rows
