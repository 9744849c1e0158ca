-- The buckets so far.
use Rattle.std.proofs.Common.{◌≡◌, ◌++◌, take, string_bytes}
use Rattle.std.specs.Prelude.{flat_map}
use Rattle.metrics_exposition.specs.Numbers.{number}
use Rattle.metrics_exposition.specs.Heads.{bucket_line}
use Rattle.metrics_exposition.proofs.samples.write_buckets.Given as goal

abbrev pub invariant-loop-bound : goal.invariant-loop-bound
invariant-loop-bound l = string_bytes l.text ≡ string_bytes l.initial.text ++ flat_map (λ b. bucket_line l.head (number l.places b.0) b.1) (take l.bound-index l.buckets)
