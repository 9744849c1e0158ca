use Rattle.metrics_local.proofs.KeepingLemmas.{equal-more}
use Rattle.metrics_local.proofs.local.keep.Goals as goal

pub returns-clause-ok : goal.returns-clause-ok
returns-clause-ok g c =
    equal-more g.K.PartialEq.eq g.K.Clone.is_clone c.args.kept.now c.insert.new.self c.args.key.now c.args.handle c.insert.result g.met.K.EqualClone.clones c.insert.ensures.ok
