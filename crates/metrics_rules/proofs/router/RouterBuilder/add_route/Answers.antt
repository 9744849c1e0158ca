use Rattle.std.proofs.Common.{rules, arith, ◌∷◌, [], ap, ◌∙◌, length, length-append}
use Rattle.metrics_rules.specs.Nodes.{node_meaning}
use Rattle.metrics_rules.specs.Branches.{all_meanings}
use Rattle.metrics_rules.specs.Routing.{AddsRoute}
use Rattle.metrics_rules.proofs.RoutingLemmas.{tables-more, within-more}
use Rattle.metrics_rules.proofs.router.RouterBuilder.add_route.Goals as goal

pub returns : goal.returns
returns c =
    let s = c.args.self.now in
    let adds : AddsRoute s.routes c.add.new.self c.args.mask c.args.pattern.now c.targets-number.result = search rules in (
      c.targets-number.ensures,
      search rules,
      (let l = c.if-leaves.false in let a = c.leaves.ensures.count in let b = c.leaves-2.ensures.all in omega (arith, l, a, b)),
      rw c.reserve.ensures.items at c.push_target.ensures,
      λ rs h. tables-more s.routes c.add.new.self rs c.args.mask c.args.pattern.now c.targets-number.result h adds,
    )

pub invariant_of-self-2 : goal.invariant_of-self-2
invariant_of-self-2 c =
    let s = c.args.self.now in
    let all = all_meanings s.default.node s.branches.children.items in
    let more = ap length (rw c.reserve.ensures.items at c.push_target.ensures) ∙ length-append all (node_meaning c.args.target.node ∷ []) in
    let adds : AddsRoute s.routes c.add.new.self c.args.mask c.args.pattern.now c.targets-number.result = search rules in
    let n = c.targets-number.ensures in
    record { within = within-more s.routes c.add.new.self c.args.mask c.args.pattern.now c.targets-number.result (length all) _ s.within adds (omega (arith, more, n)) (omega (arith, more)) }
