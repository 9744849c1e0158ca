use Rattle.std.proofs.Common.{rules, map, refl, ap, sym, ◌∙◌}
use Rattle.metrics_rules.specs.Builders.{router_branches}
use Rattle.metrics_trees.specs.Leaves.{recorders_of}
use Rattle.metrics_trees.specs.Over.{overs}
use Rattle.metrics_trees.proofs.ChildLemmas.{same_child}
use Rattle.metrics_trees.proofs.BuildersLemmas.{refusal-is, out-of-memory, gains, length-overs, if-any-kind}
use Rattle.metrics_trees.proofs.router.RouterBuilder.add_route.Goals as goal

pub returns-in-Err : goal.returns-in-Err
returns-in-Err g c =
    let s = c.args.self.now in
    let same = ap (λ xs. overs (router_branches s.rules) (map g.B.Recorder.meaning xs)) c.make_room.ensures.recorders in
    (if-any-kind c.args.mask _ (search rules) (refusal-is (router_branches s.rules) s.leaves c.args.target s.as_many _ (c.in-Err.ensures {u = tt}).room), refl, (same, refl))

pub invariant_of-self-in-Ok : goal.invariant_of-self-in-Ok
invariant_of-self-in-Ok g c =
    let s = c.args.self.now in
    let few = (c.in_default.ensures {u = tt}).room.0 in
    let h = gains (router_branches s.rules) s.leaves c.args.target s.as_many few _ _ _ (c.in-Ok.ensures {u = tt}).3 c.make_room.ensures.recorders c.append_reserved.ensures in
    record { as_many = h.as_many }

pub returns-in-Ok : goal.returns-in-Ok
returns-in-Ok g c =
    let s = c.args.self.now in
    let made = c.in-Ok.ensures {u = tt} in
    let few = (c.in_default.ensures {u = tt}).room.0 in
    let h = gains (router_branches s.rules) s.leaves c.args.target s.as_many few _ _ _ made.3 c.make_room.ensures.recorders c.append_reserved.ensures in
    (made.0 ∙ sym (length-overs (router_branches s.rules) (map g.B.Recorder.meaning (recorders_of s.leaves))), made.1, h.fit, h.gained, made.4)

pub returns-in-Err-add_route : goal.returns-in-Err-add_route
returns-in-Err-add_route g c =
    let m = g.B.Recorder.meaning in
    let s = c.args.self.now in
    let given = c.args.target in
    let e = c.in-Err-add_route.ensures {u = tt} in
    let same = ap (λ qs. overs qs (map m (recorders_of c.make_room.new.self))) e.2.0 ∙ ap (λ xs. overs (router_branches s.rules) (map m xs)) c.make_room.ensures.recorders in
    let memory = out-of-memory (router_branches s.rules) s.leaves given s.as_many (c.in_default.ensures {u = tt}).room.0 in
    (if-any-kind c.args.mask _ (search rules) memory, same_child _ given e.1 refl, (same, e.2.1))
