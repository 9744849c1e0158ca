use Rattle.std.proofs.Common.{◌≡◌, take}
use Rattle.metrics.specs.Targets.{after_targets}
use Rattle.metrics.specs.Book.{kind_of, update_in}
use Rattle.metrics.specs.Meaning.{KeepsTargets}
use Rattle.metrics.specs.Answering.{AllHeld, places}
use Rattle.metrics.proofs.handles.update_held.Given as goal

abbrev pub invariant-loop-i : goal.invariant-loop-i
invariant-loop-i g l =
    let M = g.R.Recorder.meaning in
    record {
      keeps : KeepsTargets (M l.initial.on) (M l.on);
      updated : (M l.on).contents ≡ after_targets (update_in l.by) (take l.i (places l.found)) (M l.initial.on).contents;
      held : AllHeld (kind_of l.by) l.found (M l.on).contents;
    }
