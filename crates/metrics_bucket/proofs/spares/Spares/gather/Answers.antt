use Rattle.std.proofs.Common.{rules, ◌≡◌}
use Rattle.metrics_bucket.specs.Account.{joined_account}
use Rattle.metrics_bucket.specs.Spares.{spare_account}
use Rattle.metrics_bucket.proofs.SparePens.{more_spares}
use Rattle.metrics_bucket.proofs.spares.Spares.gather.Goals.{in-Ok, in-Err-NoPen}
use Rattle.metrics_bucket.proofs.spares.Spares.gather.Goals as goal

pub loop-at-preserved : goal.loop-at-preserved
loop-at-preserved c = elim c.match-take_at.branch [
  | in-Ok w ↦
      let is : c.match-take_at.pen ≡ joined_account c.loop-at.pen (spare_account c.args.self.now) = search rules in
      (search rules, search rules, more_spares c.args.pen.now c.loop-at.pen c.match-take_at.pen c.args.self.now c.loop-at.invariant.2 is)
  | in-Err-NoPen w ↦ search rules
]
