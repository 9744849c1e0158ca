use Rattle.std.proofs.Common.{◌≡◌, take}
use Rattle.std.specs.Prelude.{fold}
use Rattle.std.specs.Hash.FoldHasher as folding
use Rattle.metrics_names.specs.Hashing.{after_label}
use Rattle.metrics_names.proofs.key.number_of.Given as goal

abbrev pub invariant-loop-label : goal.invariant-loop-label
invariant-loop-label l = l.state ≡ fold after_label (folding.write folding.initial l.name) (take l.label-index l.label-items)
