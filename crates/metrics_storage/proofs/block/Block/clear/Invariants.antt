use Rattle.metrics_storage.specs.Block.{IsBlock}
use Rattle.metrics_storage.proofs.block.Block.clear.Given as goal

abbrev pub invariant-loop-self : goal.invariant-loop-self
invariant-loop-self g l = IsBlock l.self-inside

abbrev pub decreases-loop-self : goal.decreases-loop-self
decreases-loop-self g l = l.self-inside.len
