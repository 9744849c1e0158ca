use Rattle.metrics_growing.specs.Parts.{IsOf}
use Rattle.test_growing.proofs.threads.push_all.Given as goal

abbrev pub invariant-loop-value : goal.invariant-loop-value
invariant-loop-value g l = IsOf l.bucket l.pen
