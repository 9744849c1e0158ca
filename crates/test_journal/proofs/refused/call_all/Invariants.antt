use Rattle.std.proofs.Common.{◌≡◌}
use Rattle.test_journal.proofs.refused.call_all.Given as goal

abbrev pub invariant-loop-at : goal.invariant-loop-at
invariant-loop-at l = (l.shard.shard ≡ 0) × (l.shard.shards ≡ 1)
