use Rattle.std.proofs.Common.{◌≤◌, length}
use Rattle.metrics_growing.specs.Parts.{IsOf}
use Rattle.metrics_growing.proofs.Chains.{Came}
use Rattle.metrics_growing.proofs.bucket.GrowingBucket.try_word.Given as goal

abbrev pub invariant-loop-at : goal.invariant-loop-at
invariant-loop-at g l = IsOf l.self l.known.items × (l.at ≤ length l.known.items) × Came l.at l.initial.known.items l.known.items
