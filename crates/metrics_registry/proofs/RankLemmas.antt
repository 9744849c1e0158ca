-- Ranks of quantiles.
use Rattle.std.proofs.Common.{ℕ, ◌*◌, ◌≤◌, arith}
use Rattle.std.proofs.Math.Nat.{mul-le-mul_right}
use Rattle.metrics_registry.specs.Quantiles.{nearest_rank}

pub parts_le : (q n : ℕ) → q ≤ 1000000000 → q * n ≤ 1000000000 * n
parts_le q n h = mul-le-mul_right n h

pub rank_le : (q n : ℕ) → q ≤ 1000000000 → nearest_rank q n ≤ n
rank_le q n h = let le = parts_le q n h in omega (arith, le)
