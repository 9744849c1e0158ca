-- The lines so far, and those to come.
use Rattle.std.proofs.Common.{◌≡◌, ◌++◌, [], take, drop, string_bytes}
use Rattle.metrics_collector.specs.Repeats.{repeated_lines}
use Rattle.metrics_collector.proofs.repeats.with_repeated.Given as goal

abbrev pub invariant-loop-at : goal.invariant-loop-at
invariant-loop-at l = string_bytes l.all.text ++ repeated_lines (take l.at l.rows) (drop l.at l.rows) ≡ string_bytes l.initial.all.text ++ repeated_lines [] l.rows
