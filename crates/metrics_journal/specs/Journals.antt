-- The journals of all shards.
use Rattle.std.specs.Prelude.{◌≡◌, ℕ, suc, List, [], ◌∷◌, map}
use Rattle.metrics_journal.specs.Journal.{Journal}
use Rattle.metrics_journal.specs.Shard.{ShardParts}

-- the journal of each shard
abbrev pub journals_of : {K R : Type 0} → List (ShardParts K R) → List (Journal K)
journals_of ps = map (λ p. p.journal) ps

-- from a shard on, each shard has its place for its number
abbrev pub AreShards : {K R : Type 0} → ℕ → ℕ → List (ShardParts K R) → Type 0
AreShards count shard [] = Unit {0}
AreShards count shard (p ∷ ps) = (p.shard ≡ shard) × (p.shards ≡ count) × AreShards count (suc shard) ps
