use Rattle.std.proofs.Common.{◌≡◌, ◌+◌, ◌-◌, ◌*◌, ◌/◌, ◌≤◌, length}
use Rattle.std.specs.List.{FoldsTo}
use Rattle.metrics_bucket.specs.BucketState.{visits_of, values_in}
use Rattle.metrics_bucket.proofs.Blocks.{chunks_from}
use Rattle.metrics_bucket.specs.Blocks.{valued}
use Rattle.metrics_bucket.specs.WalkedPlaces.{Walks}
use Rattle.metrics_bucket.proofs.bucket.RuledBucket.walk_side.Given as goal

abbrev pub invariant-loop-chunks : goal.invariant-loop-chunks
invariant-loop-chunks g l = record {
  ready : g.V.Visitor.ready l.visitor;
  table : l.seat.table_id ≡ l.initial.seat.table_id;
  chunks : l.chunks ≤ (l.given + 63) / 64;
  size : length l.room ≡ 64;
  walks : Walks g.W.Walker.kind l.initial.seat.me l.seat.me l.side (64 * l.chunks) l.given;
  calls : FoldsTo g.V.Visitor.saw l.fn.visitor (valued g.T.Sample.value (chunks_from l.chunks ((l.given + 63) / 64 - l.chunks) (values_in (visits_of l.seat.me.0.hold)))) l.visitor;
}

abbrev pub decreases-loop-chunks : goal.decreases-loop-chunks
decreases-loop-chunks g l = l.chunks
