use Rattle.std.proofs.Common.{◌≡◌, ◌≤◌, vec_len}
use Rattle.std.specs.Vec.{vec_capacity}
use Rattle.metrics_shared_registry.proofs.registry.new_shards.Given as goal

abbrev pub invariant-loop : goal.invariant-loop
invariant-loop g l = (vec_len l.shards ≡ l.counter) × (l.count ≤ vec_capacity l.shards)
