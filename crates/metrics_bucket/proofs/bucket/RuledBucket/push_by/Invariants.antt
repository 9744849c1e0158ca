use Rattle.std.proofs.Common.{◌≡◌}
use Rattle.metrics_bucket.specs.Steps.{HasLooked}
use Rattle.metrics_bucket.proofs.bucket.RuledBucket.push_by.Given as goal

abbrev pub invariant-loop : goal.invariant-loop
invariant-loop g l = HasLooked l.initial.seat.me l.seat.me × (l.seat.table_id ≡ l.initial.seat.table_id)
