use Rattle.metrics_shared.proofs.recoverable.SlotRecorder.describe.Goals as goal

pub returns : goal.returns
returns g c = (_, _, c.describe.ensures)
