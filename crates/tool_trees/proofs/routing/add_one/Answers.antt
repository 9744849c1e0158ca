use Rattle.std.proofs.Common.{◌≡◌, ◌++◌, List, sym, ap, ◌∙◌, arith}
use Rattle.metrics_trees.specs.Builders.{router_recorders}
use Rattle.tool_trees.specs.declared.level.Level.{Level}
use Rattle.tool_trees.specs.Doing.{level_meaning, level_meanings}
use Rattle.tool_trees.proofs.Joins.{to_earlier, like_others, too_many, adds_earlier, adds_next}
use Rattle.tool_trees.proofs.routing.add_one.Goals as goal

pub returns-in-Ok-clause-routes : goal.returns-in-Ok-clause-routes
returns-in-Ok-clause-routes c = λ rs h. rw (sym c.pattern_text-pattern.ensures) (c.in-Ok.ensures.3 rs h)

pub returns-in-Err-clause-step : goal.returns-in-Err-clause-step
returns-in-Err-clause-step c = λ bad low lt fits.
    to_earlier _ _ _ _ _ c.in-Err.ensures.0 c.requires.is_route.0 (omega (arith, c.requires.named)) c.from.ensures.0 bad

pub returns-in-Ok-add_route-clause-routes : goal.returns-in-Ok-add_route-clause-routes
returns-in-Ok-add_route-clause-routes c = λ rs h.
    let target : c.in-Ok-add_route.field-0 ≡ c.args.route.now.target = omega (arith, c.in-Ok-add_route.ensures.0, c.requires.named) in
    rw (sym c.pattern_text-pattern.ensures, sym target) (c.in-Ok-add_route.ensures.4 rs h)

pub returns-in-Ok-clause-step : goal.returns-in-Ok-clause-step
returns-in-Ok-clause-step c = adds_earlier _ _ _ _ _ (omega (arith, c.in-Ok.ensures.1, c.requires.named)) c.requires.named c.in-Ok.ensures.2

pub returns-in-Ok-add_route-clause-step : goal.returns-in-Ok-add_route-clause-step
returns-in-Ok-add_route-clause-step c = adds_next _ _ _ _ _ _ c.in-Some.field-0 (omega arith) c.requires.named c.in-Some.ensures.items c.in-Ok-add_route.ensures.3

pub returns-in-Err-add_route-clause-step : goal.returns-in-Err-add_route-clause-step
returns-in-Err-add_route-clause-step c = λ bad low lt fits.
    let now = router_recorders c.args.builder.now in
    let all = sym (ap (λ (ls : List Level). now ++ level_meanings ls) c.in-Some.ensures.items) in
    let same = like_others _ now (level_meaning c.in-Some.field-0) c.requires.is_route.0 in
    omega (arith, fits, too_many now (level_meanings c.pop_front.new.self.items) _ (level_meaning c.in-Some.field-0) _ _ all (c.in-Err-add_route.ensures.0 ∙ same) c.from-in-Err-add_route.ensures.0 bad)
