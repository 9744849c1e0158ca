use Rattle.std.proofs.Common.{◌*◌}
use Rattle.metrics_bucket.proofs.WalkCode.{goes_kept}
use Rattle.metrics_bucket.specs.WalkedPlaces.{reads}
use Rattle.metrics_bucket.specs.declared.view.Visit.TheVariants.{Read}
use Rattle.metrics_bucket.proofs.walker.ReaderWalker.leave_block.Goals as goal

pub returns-clause-left : goal.returns-clause-left
returns-clause-left c = goes_kept Read reads c.args._seat.now.me c.args._side (64 * c.args._block) c.args._end c.requires.block.hold c.requires.read
