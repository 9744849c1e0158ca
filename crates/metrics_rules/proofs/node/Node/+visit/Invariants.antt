use Rattle.std.proofs.Common.{length, ◌≡◌}
use Rattle.std.specs.List.{FoldsTo}
use Rattle.metrics_rules.specs.Visits.{shown}
use Rattle.metrics_rules.proofs.VisitLemmas.{got}
use Rattle.metrics_rules.proofs.node.Node.+visit.Given as goal

abbrev pub decreases-visit : goal.decreases-visit
decreases-visit g l = goal.size-visit g l

abbrev pub invariant-loop-i : goal.invariant-loop-i
invariant-loop-i g l =
    let key = g.K.Named.parts l.key in
    let ts = got l.kind key.name l.front l.children.items l.i in
    (l.accepted ≡ length ts) × FoldsTo (shown g.V.Visitor.accepts key.labels) l.fn.visitor ts l.visitor
