-- The samples so far.
use Rattle.std.proofs.Common.{◌≡◌, ◌++◌, map, take}
use Rattle.metrics.specs.declared.handles.Update.TheVariants.{Record}
use Rattle.metrics_exporter.specs.Exporting.{Setup, Log}
use Rattle.metrics_exporter.specs.Kept.{IsAfter, described}
use Rattle.metrics_exporter.specs.Absorbing.{made}
use Rattle.metrics_exporter.proofs.absorb.absorb_samples.Given as goal

abbrev pub invariant-loop-i : goal.invariant-loop-i
invariant-loop-i l = record {
  stands : (setup : Setup) (log : Log) → IsAfter setup log l.initial.on → IsAfter setup (log ++ made l.key (map Record (take l.i l.samples))) l.on;
  descriptions : described l.on ≡ described l.initial.on;
  shards : l.on.registry.count ≡ l.initial.on.registry.count;
}
