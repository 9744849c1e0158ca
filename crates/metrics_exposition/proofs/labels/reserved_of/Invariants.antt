-- No label so far is reserved.
use Rattle.std.proofs.Common.{◌≡◌, drop}
use Rattle.metrics_exposition.specs.Labels.{reserved_of}
use Rattle.metrics_exposition.proofs.labels.reserved_of.Given as goal

abbrev pub invariant-loop-label : goal.invariant-loop-label
invariant-loop-label l = reserved_of l.kind (drop l.label-index l.labels) ≡ reserved_of l.kind l.labels
