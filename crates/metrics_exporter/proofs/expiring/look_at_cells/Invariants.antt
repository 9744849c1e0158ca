-- The entries so far.
use Rattle.std.proofs.Common.{List, ◌++◌, map}
use Rattle.std.specs.Map.Iter.{deref_pair}
use Rattle.metrics_names.specs.Names.{key_eq}
use Rattle.metrics_registry.specs.RecencyEntries.{rules_of, table_of}
use Rattle.metrics_exporter.specs.Gathering.{Seen, seen_in}
use Rattle.metrics_exporter.specs.Stepping.{AreFound}
use Rattle.metrics_exporter.proofs.expiring.look_at_cells.Given as goal

abbrev pub invariant-loop-key : goal.invariant-loop-key
invariant-loop-key g l = (walk : List Seen) → AreFound (rules_of l.recency) l.now (table_of key_eq l.recency) walk l.initial.found
    → AreFound (rules_of l.recency) l.now (table_of key_eq l.recency) (walk ++ seen_in g.C.KindCell.kind_held g.C.KindCell.shows (map deref_pair l.yielded)) l.found
