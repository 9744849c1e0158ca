-- No label so far has the name of the one before.
use Rattle.std.proofs.Common.{◌≡◌, None, drop}
use Rattle.std.specs.Prelude.{option_map}
use Rattle.metrics_exposition.specs.Labels.{follows}
use Rattle.metrics_exposition.proofs.labels.repeats.Given as goal

abbrev pub invariant-loop-label : goal.invariant-loop-label
invariant-loop-label l = follows (option_map (λ n. n.now) l.last) (drop l.label-index l.labels) ≡ follows None l.labels
