-- An upper bound for a quantile, by the counts of buckets.
use Rattle.std.specs.Prelude.{ℕ, ℤ, nat_lt, int_le, if◌then◌else◌, max, List, Option, None, Some}
use Rattle.std.specs.List.{fold}
use Rattle.metrics_registry.specs.Quantiles.{nearest_rank}
use Rattle.metrics_storage.specs.Histogram.{Distribution}

-- the rank of q billionths among n samples, counted from 1
abbrev pub rank_of : ℕ → ℕ → ℕ
rank_of q n = max 1 (nearest_rank q n)

-- the lesser of two bounds
abbrev pub lesser : ℤ → Option ℤ → Option ℤ
lesser bound None = Some bound
lesser bound (Some other) = if int_le other bound then Some other else Some bound

-- the lesser of a bound and a bucket's, if at least `rank` samples are at most the bucket's
abbrev pub better : ℕ → Option ℤ → ℤ × ℕ → Option ℤ
better rank least b = if nat_lt b.1 rank then least else lesser b.0 least

-- the least bound that at least `rank` samples are at most
abbrev pub least_reaching : ℕ → List (ℤ × ℕ) → Option ℤ
least_reaching rank buckets = fold (better rank) None buckets

-- the least bound that the sample at the quantile's nearest rank is at most; none, if that sample is above all bounds, or there is none
abbrev pub quantile_bound : ℕ → Distribution → Option ℤ
quantile_bound q h = least_reaching (rank_of q h.count) h.buckets
