use Rattle.std.proofs.Common.{◌≡◌, Some, refl, rules}
use Rattle.metrics_shared.proofs.slot.Slot.with.Goals as goal

pub returns : goal.returns
returns g c =
    let full : c.args.self.now ≡ Some c.in-Some.recorder = search rules in
    rw full (record { shown = _; shows = refl; left = _; met = c.f.ensures; leaves = refl })
