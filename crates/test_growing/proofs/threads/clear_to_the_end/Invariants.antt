use Rattle.metrics_growing.specs.Parts.{IsOf}
use Rattle.test_growing.proofs.threads.clear_to_the_end.Given as goal

abbrev pub invariant-loop : goal.invariant-loop
invariant-loop g l = IsOf l.bucket l.pen
