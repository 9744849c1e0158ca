use Rattle.metrics_growing.specs.Parts.{IsOf}
use Rattle.test_growing.proofs.scarce.push_65.Given as goal

abbrev pub invariant-loop-value : goal.invariant-loop-value
invariant-loop-value g l = IsOf l.bucket l.pen
