use Rattle.metrics_bucket.proofs.AllowedVisits.{wipes_marks}
use Rattle.metrics_bucket.proofs.walker.ClearerWalker.leave_block.Goals as goal

pub store-requires : goal.store-requires
store-requires c = (c.requires.home.0, c.requires.word, wipes_marks _ _ _ _ _ _ c.args._side c.args._block c.args._end c.requires.home.1 c.requires.block c.requires.read)

pub returns-clause-left : goal.returns-clause-left
returns-clause-left c = (c.store.ensures.2 c.args._side c.args._block c.args._end c.requires.block c.requires.read).0

pub returns-clause-same : goal.returns-clause-same
returns-clause-same c = (c.store.ensures.2 c.args._side c.args._block c.args._end c.requires.block c.requires.read).1
