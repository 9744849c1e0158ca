-- The series so far.
use Rattle.std.proofs.Common.{◌≡◌, take}
use Rattle.metrics_names.specs.Names.{key_eq}
use Rattle.metrics_registry.specs.RecencyEntries.{rules_of, table_of}
use Rattle.metrics_exporter.specs.Gathering.{all_seen}
use Rattle.metrics_exporter.specs.Stepping.{noted_if_kept, table_with_all}
use Rattle.metrics_exporter.proofs.expiring.note_all.Given as goal

abbrev pub invariant-loop-i : goal.invariant-loop-i
invariant-loop-i l = record {
  rules : rules_of l.recency ≡ rules_of l.initial.recency;
  notes : table_of key_eq l.recency ≡ table_with_all (noted_if_kept (rules_of l.initial.recency)) l.now (all_seen (take l.i l.unnoted)) (table_of key_eq l.initial.recency);
}
