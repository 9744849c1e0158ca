use Rattle.std.proofs.Common.{◌≡◌, ◌≤◌, ◌++◌, length}
use Rattle.std.specs.HashMap.{get, spare}
use Rattle.std.specs.Vec.Iter.{into_iter_items}
use Rattle.metrics_names.specs.Names.{SeriesKey, series_key_eq}
use Rattle.metrics.specs.Rows.{last_row}
use Rattle.metrics.proofs.debugging.Snapshot.into_hashmap.Given as goal

abbrev pub invariant-loop-key : goal.invariant-loop-key
invariant-loop-key l = record {
  ready : (goal.iterator-loop-key).can_next l.key-iterator × (goal.iterator-loop-key).is_finite l.key-iterator;
  room : length (into_iter_items l.key-iterator) ≤ spare l.map;
  all : l.fn.self.rows ≡ l.yielded ++ into_iter_items l.key-iterator;
  rows : (k : SeriesKey) → get series_key_eq l.map k ≡ last_row k l.yielded;
}
