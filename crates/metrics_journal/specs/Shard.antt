-- What contracts see of a journaled shard.
use Rattle.std.specs.Prelude.{ℕ}
use Rattle.metrics_journal.specs.Journal.{Journal}

-- its number among so many shards, its cells, and its calls
pub record ShardParts (K R : Type 0) : Type 0 where
  pub shard : ℕ
  pub shards : ℕ
  pub kinds : R
  pub journal : Journal K

-- these, and the storage that makes the cells
pub record ShardState (K S R : Type 0) : Type 0 where
  pub storage : S
  pub shard : ℕ
  pub shards : ℕ
  pub kinds : R
  pub journal : Journal K
