use Rattle.std.proofs.Common.{◌≡◌, length, sym, ◌∙◌, arith}
use Rattle.std.proofs.lemmas.Bool.{eqb-true, eqb-false}
use Rattle.metrics_rules.proofs.BuildersLemmas.{winner-routed, alone-routed}
use Rattle.metrics_rules.proofs.router.RouterBuilder.build.Goals as goal

pub returns-then-is_empty-clause-routed : goal.returns-then-is_empty-clause-routed
returns-then-is_empty-clause-routed c rs h =
    let s = c.args.self in
    let none : length s.branches.children.items ≡ 0 = omega (arith, eqb-true _ _ (sym c.is_empty.ensures ∙ c.if-is_empty.true), s.branches.children.ok.0) in
    alone-routed s.routes rs h s.default.node s.branches.children.items none s.within

pub returns-clause-routed : goal.returns-clause-routed
returns-clause-routed c rs h =
    let s = c.args.self in
    c.into_rules.ensures
    ∙ winner-routed s.routes rs h s.default.node s.branches.children.items (λ e. eqb-false _ _ (sym c.is_empty.ensures ∙ c.if-is_empty.false) (omega (arith, e, s.branches.children.ok.0)))
