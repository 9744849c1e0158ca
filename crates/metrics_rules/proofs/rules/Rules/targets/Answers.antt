use Rattle.std.proofs.Common.{◌++◌, ◌∙◌, ap, map}
use Rattle.metrics_rules.specs.Visits.{listed}
use Rattle.metrics_rules.specs.Meanings.{rules_meaning}
use Rattle.metrics_rules.specs.declared.rules.Copies.{Copies}
use Rattle.metrics_rules.proofs.VisitLemmas.{copies-are}
use Rattle.metrics_rules.proofs.rules.Rules.targets.Goals as goal

pub returns-in-Ok : goal.returns-in-Ok
returns-in-Ok c =
    let labels = c.args.key.now.labels in
    let ts = (rules_meaning c.args.self.now).targets c.args.kind c.args.key.now.name in
    copies-are (λ (v : Copies). v.found.items) labels _ ts _ c.in-Ok.ensures.1 ∙ ap (λ copies. copies ++ map (listed labels) ts) c.new.ensures.items
