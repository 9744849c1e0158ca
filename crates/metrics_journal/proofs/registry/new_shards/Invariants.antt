use Rattle.std.proofs.Common.{◌≡◌, ◌≤◌, Bool, vec_len, vec_capacity}
use Rattle.metrics_journal.specs.Journal.{replies_in}
use Rattle.metrics_journal.specs.Journals.{journals_of, AreShards}
use Rattle.metrics_journal.proofs.registry.new_shards.Given as goal

abbrev pub invariant-loop-shard : goal.invariant-loop-shard
invariant-loop-shard g l =
    AreShards l.count 0 l.shards.items
    × ((b : Bool) → replies_in b (journals_of l.shards.items) ≡ 0)
    × (vec_len l.shards ≡ l.shard)
    × (l.count ≤ vec_capacity l.shards)
