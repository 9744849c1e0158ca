use Rattle.std.proofs.Common.{◌≡◌, take, map}
use Rattle.metrics_collector.proofs.lists.labels_from.Given as goal

abbrev pub invariant-loop-key : goal.invariant-loop-key
invariant-loop-key l = l.made.items ≡ take l.key-index (map (λ m. (m.0.now, m.1.now)) l.pairs)
