-- The labels so far.
use Rattle.std.proofs.Common.{◌≡◌, ◌++◌, take, string_bytes}
use Rattle.std.specs.Prelude.{flat_map}
use Rattle.metrics_exposition.specs.Heads.{more_text}
use Rattle.metrics_exposition.proofs.samples.write_more.Given as goal

abbrev pub invariant-loop-label : goal.invariant-loop-label
invariant-loop-label l = string_bytes l.text ≡ string_bytes l.initial.text ++ flat_map more_text (take l.label-index l.labels)
