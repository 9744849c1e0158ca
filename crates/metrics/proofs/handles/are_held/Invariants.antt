use Rattle.std.proofs.Common.{◌≡◌, drop}
use Rattle.metrics.specs.Answering.{holds_all}
use Rattle.metrics.proofs.handles.are_held.Given as goal

abbrev pub invariant-loop-at : goal.invariant-loop-at
invariant-loop-at g l =
    let cs = (g.R.Recorder.meaning l.on).contents in
    holds_all l.kind l.found cs ≡ holds_all l.kind (drop l.at-index l.found) cs
