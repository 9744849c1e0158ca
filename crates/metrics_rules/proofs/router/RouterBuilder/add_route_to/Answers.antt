use Rattle.std.proofs.Common.{rules, arith, refl}
use Rattle.metrics_rules.specs.Routing.{AddsRoute}
use Rattle.metrics_rules.proofs.RoutingLemmas.{tables-more}
use Rattle.metrics_rules.proofs.router.RouterBuilder.add_route_to.Goals as goal

pub returns : goal.returns
returns c =
    let s = c.args.self.now in
    let adds : AddsRoute s.routes c.add.new.self c.args.mask c.args.pattern.now c.args.target = search rules in
    (search rules, (let t = c.targets.ensures in let l = c.if-target-targets.false in omega (arith, t, l)), refl, λ rs h. tables-more s.routes c.add.new.self rs c.args.mask c.args.pattern.now c.args.target h adds)
