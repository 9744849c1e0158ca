-- So many updates so far.
use Rattle.std.proofs.Common.{◌≡◌, ◌++◌}
use Rattle.std.specs.Prelude.{replicate}
use Rattle.metrics_exporter.specs.Exporting.{Setup, Log}
use Rattle.metrics_exporter.specs.Kept.{IsAfter, described}
use Rattle.tool_state.specs.State.{made_in}
use Rattle.tool_state.proofs.entries.update_times.Given as goal

abbrev pub invariant-loop-turn : goal.invariant-loop-turn
invariant-loop-turn l = record {
  stands : (setup : Setup) (log : Log) → IsAfter setup log l.initial.on → IsAfter setup (log ++ made_in l.unit l.key (replicate l.turn l.by)) l.on;
  told : described l.on ≡ described l.initial.on;
}
