use Rattle.metrics_growing.proofs.Chains.{keeps_same}
use Rattle.metrics_growing.proofs.bucket.GrowingBucket.meet_all.Goals as goal

pub loop-init : goal.loop-init
loop-init g c = (c.requires.own, keeps_same c.args.known.now.items)
