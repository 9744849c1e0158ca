-- The sides of a bucket that any thread may use.
use Rattle.std.specs.Prelude.{ℕ}
use Rattle.metrics_bucket.specs.declared.sample.Sample as sample
use Rattle.metrics_bucket.specs.declared.atomic.AtomicBucket.{AtomicBucket}

-- how many places each side has
abbrev pub side_places : {T : Type 0} {s : sample.Ghosts T} → AtomicBucket T s → ℕ
side_places b = b.bucket.places
