use Rattle.std.proofs.Common.{refl}
use Rattle.metrics_rules.proofs.VisitLemmas.{refuses-one}
use Rattle.metrics_rules.proofs.visitor.show.Goals as goal

pub returns-in-Err : goal.returns-in-Err
returns-in-Err g c =
    refuses-one g.V.Visitor.accepts g.V.Visitor.refuses (g.K.Named.parts c.args.key.now).labels c.args.visitor.now c.visit.new.self c.args.leaf (g.K.Named.parts c.args.key.now) c.in-Err.refused refl (c.in-Err.ensures {u = tt})
