use Rattle.std.proofs.Common.{length, map, sym, ap, ◌∙◌, arith}
use Rattle.metrics.specs.Meaning.{Meaning}
use Rattle.metrics.specs.Layers.{routed}
use Rattle.tool_trees.specs.Trees.{route_of}
use Rattle.tool_trees.proofs.Joins.{others, together}
use Rattle.tool_trees.proofs.routing.router_over.Goals as goal

pub returns-in-Err : goal.returns-in-Err
returns-in-Err c = λ bad names le.
    let items = c.in-Some.ensures.items in
    c.in-Err.ensures.all (sym c.refusing.ensures ∙ bad) (rw (others _ _ _ items) at names) (rw (together _ _ _ _ items c.from_recorder-builder.ensures.recorders) le)

pub returns : goal.returns
returns c =
    let items = c.in-Some.ensures.items in
    let routes = map route_of c.args.routes.now in
    let done = c.in_default-add_routes.ensures.all in
    let all = done.1 ∙ together _ _ _ _ items c.from_recorder-builder.ensures.recorders in
    let mean = c.in_ok-router.ensures.meaning ∙ c.build.ensures.routed routes c.in_default-add_routes.ensures.routes ∙ ap (routed routes) all in
    (rw (others _ _ _ items) done.0, omega (arith, ap (λ (m : Meaning). length m.contents) mean), mean)
