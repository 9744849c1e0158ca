use Rattle.std.proofs.Common.{◌≡◌, take, w64}
use Rattle.std.specs.Prelude.{All, FitsSigned}
use Rattle.metrics_storage.proofs.scale.copy_of.Given as goal

abbrev pub invariant-loop-bound : goal.invariant-loop-bound
invariant-loop-bound l = record { same : l.copy.items ≡ take l.bound-index l.bounds; fits : All (FitsSigned w64) (take l.bound-index l.bounds) }
