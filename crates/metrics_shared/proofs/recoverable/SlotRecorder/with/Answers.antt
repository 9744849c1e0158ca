use Rattle.metrics_shared.proofs.recoverable.SlotRecorder.with.Goals as goal

pub returns : goal.returns
returns g c = (_, _, c.with.ensures)
