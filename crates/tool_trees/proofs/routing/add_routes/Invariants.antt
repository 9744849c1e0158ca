-- The routes so far, and those that are left.
use Rattle.std.proofs.Common.{map, take, drop}
use Rattle.metrics_trees.specs.Builders.{router_recorders, HasRoutes}
use Rattle.tool_trees.specs.Trees.{route_of}
use Rattle.tool_trees.proofs.Joins.{RoutesSoFar}
use Rattle.tool_trees.proofs.routing.add_routes.Given as goal

abbrev pub invariant-loop-route : goal.invariant-loop-route
invariant-loop-route l = record {
  added : HasRoutes l.builder (map route_of (take l.route-index l.routes));
  so : RoutesSoFar (router_recorders l.fn.builder) (router_recorders l.builder) l.fn.targets.items l.targets.items l.routes (drop l.route-index l.routes) l.named;
}
