-- Each label so far may stand beside those before it.
use Rattle.std.proofs.Common.{◌≡◌, [], take, drop}
use Rattle.metrics_exposition.specs.Common.{first_bad_label}
use Rattle.metrics_exposition.proofs.common.first_bad_label.Given as goal

abbrev pub invariant-loop-at : goal.invariant-loop-at
invariant-loop-at l = first_bad_label (take l.at l.labels) (drop l.at l.labels) ≡ first_bad_label [] l.labels
