use Rattle.std.proofs.Common.{◌≡◌, ◌-◌, take, drop, map}
use Rattle.metrics_bucket.specs.declared.view.Visit.TheVariants.{Read}
use Rattle.metrics_bucket.specs.BucketState.{visits_of, values_in}
use Rattle.metrics_bucket.specs.WalkedPlaces.{Goes}
use Rattle.metrics_bucket.proofs.bucket.RuledBucket.read_block.Given as goal

abbrev pub invariant-loop-at : goal.invariant-loop-at
invariant-loop-at g l = record {
  table : l.seat.table_id ≡ l.initial.seat.table_id;
  goes : Goes Read g.W.Walker.kind l.initial.seat.me l.seat.me l.side l.start l.at;
  room : take (l.at - l.start) l.room ≡ map g.T.Sample.value (take (l.at - l.start) (drop l.start (values_in (visits_of l.seat.me.0.hold))));
}
