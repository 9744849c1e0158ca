use Rattle.std.proofs.Common.{◌≡◌, ◌++◌, ◌-◌, take, drop, map, vec_capacity}
use Rattle.metrics_bucket.specs.Steps.{values_known}
use Rattle.metrics_bucket.proofs.bucket.RuledBucket.settled_chunk.Given as goal

abbrev pub invariant-loop-at : goal.invariant-loop-at
invariant-loop-at g l =
    (l.seat.table_id ≡ l.initial.seat.table_id)
    × (l.seat.me ≡ l.initial.seat.me)
    × (l.values.items ≡ l.initial.values.items ++ map g.T.Sample.value (take (l.at - l.start) (drop l.start (values_known l.initial.seat.me.0.hold))))
    × (vec_capacity l.values ≡ vec_capacity l.initial.values)
