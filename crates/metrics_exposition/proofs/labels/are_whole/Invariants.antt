-- The labels so far are shown as they are.
use Rattle.std.proofs.Common.{◌≡◌, true, take}
use Rattle.std.specs.Prelude.{All}
use Rattle.std.specs.Str.{IsUtf8}
use Rattle.metrics_exposition.specs.Labels.{is_whole}
use Rattle.metrics_exposition.proofs.labels.are_whole.Given as goal

abbrev pub invariant-loop-label : goal.invariant-loop-label
invariant-loop-label l =
    record {
      whole : All (λ m. is_whole m ≡ true) (take l.label-index l.labels);
      texts : All (λ m. IsUtf8 m.1) (take l.label-index l.labels);
    }
