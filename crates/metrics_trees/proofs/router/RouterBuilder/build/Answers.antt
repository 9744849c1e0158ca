use Rattle.std.proofs.Common.{map, ap, ◌∙◌}
use Rattle.metrics_rules.specs.Builders.{router_branches}
use Rattle.metrics_rules.specs.Meanings.{rules_meaning}
use Rattle.metrics_trees.specs.Leaves.{recorders_of}
use Rattle.metrics_trees.specs.Over.{over}
use Rattle.metrics_trees.proofs.OverLemmas.{over_routed}
use Rattle.metrics_trees.proofs.router.RouterBuilder.build.Goals as goal

pub returns-clause-routed : goal.returns-clause-routed
returns-clause-routed g c rs h =
    let m = g.B.Recorder.meaning in
    let s = c.args.self in
    let bs = recorders_of s.leaves in
    ap (λ bs. over (rules_meaning c.build.result) (map m bs)) c.new.ensures ∙ ap (λ r. over r (map m bs)) (c.build.ensures.routed rs h) ∙ over_routed m (router_branches s.rules) bs s.as_many rs
