-- The rows so far, and those to come.
use Rattle.std.proofs.Common.{◌≡◌, ◌++◌, map, drop}
use Rattle.metrics_collector.specs.Gathering.{keyed_gathered}
use Rattle.metrics_collector.proofs.merging.copies.Given as goal

abbrev pub invariant-loop-row : goal.invariant-loop-row
invariant-loop-row l = map keyed_gathered l.all.items ++ map keyed_gathered (drop l.row-index l.rows) ≡ map keyed_gathered l.rows
