use Rattle.tool_storm.specs.Numbers.{count_of, sum_of, below}
use Rattle.tool_storm.specs.Tallies.{Tells}
use Rattle.tool_storm.specs.Pens.{HasPushed}
use Rattle.tool_storm.proofs.worker.push_all.Given as goal

abbrev pub invariant-loop-value : goal.invariant-loop-value
invariant-loop-value g l =
    g.B.Bucket.owns l.shared.bucket l.pen × HasPushed (g.B.Bucket.bags l.initial.pen) (below l.value) (g.B.Bucket.bags l.pen) × Tells l.pushed (count_of (below l.value)) (sum_of (below l.value))
