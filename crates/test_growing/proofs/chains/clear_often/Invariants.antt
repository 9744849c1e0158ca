use Rattle.metrics_growing.specs.Parts.{IsOf}
use Rattle.test_growing.proofs.chains.clear_often.Given as goal

abbrev pub invariant-loop : goal.invariant-loop
invariant-loop g l = IsOf l.bucket l.pen
