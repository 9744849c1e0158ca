use Rattle.std.proofs.Common.{◌≡◌, ◌++◌, ◌≤◌, ◌*◌, ◌+◌, map, vec_capacity}
use Rattle.metrics_bucket.specs.Steps.{values_known}
use Rattle.metrics.specs.Book.{blocks}
use Rattle.metrics_bucket.proofs.Blocks.{first_chunks}
use Rattle.metrics_bucket.proofs.bucket.RuledBucket.settled_values.Given as goal

abbrev pub invariant-loop-chunks : goal.invariant-loop-chunks
invariant-loop-chunks g l = record {
  table : l.seat.table_id ≡ l.initial.seat.table_id;
  me : l.seat.me ≡ l.initial.seat.me;
  items : l.values.items ++ map g.T.Sample.value (first_chunks l.chunks (values_known l.initial.seat.me.0.hold)) ≡ map g.T.Sample.value (blocks (values_known l.initial.seat.me.0.hold));
  chunks : 64 * l.chunks ≤ l.given + 63;
  room : vec_capacity l.values ≡ vec_capacity l.initial.values;
}

abbrev pub decreases-loop-chunks : goal.decreases-loop-chunks
decreases-loop-chunks g l = l.chunks
