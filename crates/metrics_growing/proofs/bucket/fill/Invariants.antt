use Rattle.std.proofs.Common.{◌≡◌, ◌++◌, ◌+◌, length}
use Rattle.metrics_growing.proofs.bucket.fill.Given as goal

abbrev pub invariant-loop : goal.invariant-loop
invariant-loop l = ((more : _) × (l.links.items ≡ l.initial.links.items ++ more)) × (length l.links.items ≡ length l.initial.links.items + l.counter)
