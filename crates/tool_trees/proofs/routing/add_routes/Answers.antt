use Rattle.std.proofs.lemmas.Result.{err_from_is_err_and}
use Rattle.std.proofs.Common.{◌≡◌, map, take, length, sym, subst, ◌∙◌, eqb-true, arith}
use Rattle.metrics_trees.specs.Builders.{router_recorders, HasRoutes}
use Rattle.tool_trees.specs.Trees.{route_of}
use Rattle.tool_trees.proofs.Joins.{added_step, step_more, step_bad, step_end}
use Rattle.tool_trees.proofs.routing.add_routes.Goals as goal

pub returns-in_err-named-clause-all : goal.returns-in_err-named-clause-all
returns-in_err-named-clause-all c =
    let p = err_from_is_err_and c.from_residual.result c.from_residual.ensures.1 in
    rw (p.1, p.2) (λ bad.
    step_bad (router_recorders c.args.builder.now) (router_recorders c.loop-route.builder) c.args.targets.now.items c.loop-route.targets.items c.args.routes.now c.loop-route.named c.loop-route.route-index
    c.loop-route.invariant.so c.route-item.result c.loop-route-test.true c.route-item.is (c.in_err-named.ensures.step bad))

pub loop-route-preserved : goal.loop-route-preserved
loop-route-preserved c = record {
  added = subst (HasRoutes c.add_one.new.builder) (added_step c.args.routes.now c.loop-route.route-index c.route-item.result c.loop-route-test.true c.route-item.is) (c.in_ok-named.ensures.routes (map route_of (take c.loop-route.route-index c.args.routes.now)) c.loop-route.invariant.added);
  so = step_more (router_recorders c.args.builder.now) (router_recorders c.loop-route.builder) c.args.targets.now.items c.loop-route.targets.items c.args.routes.now c.loop-route.named c.loop-route.route-index
      c.loop-route.invariant.so c.route-item.result c.loop-route-test.true c.route-item.is (router_recorders c.add_one.new.builder) c.add_one.new.targets.items c.in_ok-named.named c.in_ok-named.ensures.step;
}

pub returns-then-is_empty-clause-all : goal.returns-then-is_empty-clause-all
returns-then-is_empty-clause-all c =
    let none = eqb-true _ _ (sym c.is_empty.ensures ∙ c.if-is_empty.true) in
    let empty : length c.loop-route.targets.items ≡ 0 = omega (arith, none, c.loop-route.targets.ok.0) in
    step_end (router_recorders c.args.builder.now) (router_recorders c.loop-route.builder) c.args.targets.now.items c.loop-route.targets.items c.args.routes.now c.loop-route.named c.loop-route.route-index
    c.loop-route.invariant.so c.loop-route-test.false empty
