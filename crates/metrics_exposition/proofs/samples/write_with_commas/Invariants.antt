-- The labels so far.
use Rattle.std.proofs.Common.{◌≡◌, ◌++◌, take, string_bytes}
use Rattle.metrics_exposition.specs.Heads.{with_commas}
use Rattle.metrics_exposition.proofs.samples.write_with_commas.Given as goal

abbrev pub invariant-loop-label : goal.invariant-loop-label
invariant-loop-label l = string_bytes l.text ≡ string_bytes l.initial.text ++ with_commas (take l.label-index l.labels)
