-- The series so far.
use Rattle.std.proofs.Common.{◌≡◌, take}
use Rattle.metrics_names.specs.Names.{key_eq}
use Rattle.metrics_registry.specs.RecencyEntries.{rules_of, table_of}
use Rattle.metrics_exporter.specs.Gathering.{all_shown}
use Rattle.metrics_exporter.specs.Stepping.{notes_without}
use Rattle.metrics_exporter.proofs.expiring.forget.Given as goal

abbrev pub invariant-loop-one : goal.invariant-loop-one
invariant-loop-one l = record {
  rules : rules_of l.recency ≡ rules_of l.initial.recency;
  notes : table_of key_eq l.recency ≡ notes_without (take l.one-index (all_shown l.series)) (table_of key_eq l.initial.recency);
}
