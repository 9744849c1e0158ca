use Rattle.std.proofs.Common.{map, refl, ap, ◌∙◌}
use Rattle.metrics_rules.specs.Builders.{fanout_branches}
use Rattle.metrics_trees.specs.Leaves.{recorders_of}
use Rattle.metrics_trees.specs.Over.{overs}
use Rattle.metrics_trees.proofs.ChildLemmas.{same_child}
use Rattle.metrics_trees.proofs.BuildersLemmas.{refusal-is, out-of-memory, gains}
use Rattle.metrics_trees.proofs.fanout.FanoutBuilder.add_recorder.Goals as goal

pub returns-in-Err : goal.returns-in-Err
returns-in-Err g c =
    let s = c.args.self.now in
    let same = ap (λ xs. overs (fanout_branches s.rules) (map g.B.Recorder.meaning xs)) c.make_room.ensures.recorders in
    (refusal-is (fanout_branches s.rules) s.leaves c.args.child s.as_many _ (c.in-Err.ensures {u = tt}).room, refl, same)

pub invariant_of-self-in-Ok : goal.invariant_of-self-in-Ok
invariant_of-self-in-Ok g c =
    let s = c.args.self.now in
    let few = (c.in_default.ensures {u = tt}).room.0 in
    let h = gains (fanout_branches s.rules) s.leaves c.args.child s.as_many few _ _ _ (c.in-Ok.ensures {u = tt}).1 c.make_room.ensures.recorders c.append_reserved.ensures in
    record { as_many = h.as_many }

pub returns-in-Ok : goal.returns-in-Ok
returns-in-Ok g c =
    let s = c.args.self.now in
    let few = (c.in_default.ensures {u = tt}).room.0 in
    let h = gains (fanout_branches s.rules) s.leaves c.args.child s.as_many few _ _ _ (c.in-Ok.ensures {u = tt}).1 c.make_room.ensures.recorders c.append_reserved.ensures in
    (h.fit, h.gained)

pub returns-in-Err-add_child : goal.returns-in-Err-add_child
returns-in-Err-add_child g c =
    let m = g.B.Recorder.meaning in
    let s = c.args.self.now in
    let given = c.args.child in
    let e = c.in-Err-add_child.ensures {u = tt} in
    let same = ap (λ qs. overs qs (map m (recorders_of c.make_room.new.self))) e.2 ∙ ap (λ xs. overs (fanout_branches s.rules) (map m xs)) c.make_room.ensures.recorders in
    (out-of-memory (fanout_branches s.rules) s.leaves given s.as_many (c.in_default.ensures {u = tt}).room.0, same_child _ given e.1 refl, same)
