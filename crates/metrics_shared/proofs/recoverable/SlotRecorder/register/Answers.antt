use Rattle.metrics_shared.proofs.recoverable.SlotRecorder.register.Goals as goal

pub returns : goal.returns
returns g c = (_, _, c.register.ensures)
