-- No label so far has the name.
use Rattle.std.proofs.Common.{◌≡◌, drop}
use Rattle.std.specs.Prelude.{bytes_eq}
use Rattle.std.specs.List.{list_any}
use Rattle.metrics_exposition.proofs.common.has_name.Given as goal

abbrev pub invariant-loop-label : goal.invariant-loop-label
invariant-loop-label l = list_any (λ m. bytes_eq m.0 l.name) (drop l.label-index l.labels) ≡ list_any (λ m. bytes_eq m.0 l.name) l.labels
