-- The rows so far.
use Rattle.std.proofs.Common.{◌≡◌, take}
use Rattle.metrics_exporter.specs.Exporting.{Setup, Log}
use Rattle.metrics_descriptions.specs.Legends.{SameLegend}
use Rattle.metrics_exporter.specs.Describing.{legend_by_rows}
use Rattle.metrics_exporter.specs.Kept.{IsAfter, described}
use Rattle.metrics_exporter.specs.Absorbing.{marked, with_rows}
use Rattle.metrics_exporter.proofs.absorb.absorb_rows.Given as goal

abbrev pub invariant-loop-i : goal.invariant-loop-i
invariant-loop-i l = record {
  stands : (setup : Setup) (log : Log) → IsAfter setup log l.initial.on → IsAfter setup (with_rows log (take l.i (marked l.rows l.activity))) l.on;
  tells : SameLegend (described l.on) (legend_by_rows (take l.i l.rows) (described l.initial.on));
  shards : l.on.registry.count ≡ l.initial.on.registry.count;
}
