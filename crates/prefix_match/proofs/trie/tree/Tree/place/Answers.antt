use Rattle.std.proofs.Common.{ap, length, ◌∙◌}
use Rattle.prefix_match.proofs.TrieForks.{deepest_of_room}
use Rattle.prefix_match.proofs.TriePairs.{grows_trans, result_grows}
use Rattle.prefix_match.proofs.trie.tree.Tree.place.Goals as goal

pub returns-in-None-clause-grows : goal.returns-in-None-clause-grows
returns-in-None-clause-grows c =
    grows_trans c.args.self.now.nodes.items c.plant.new.self.nodes.items c.add_leaf.new.self.nodes.items c.in_ok-plant.ensures.grows
    (result_grows c.plant.new.self.nodes.items c.add_leaf.new.self.nodes.items c.args.pattern.now c.add_leaf.result c.add_leaf.ensures.ok c.add_leaf.ensures.err)

pub returns-in-None-clause-ready : goal.returns-in-None-clause-ready
returns-in-None-clause-ready c = λ room.
    let there = deepest_of_room c.plant.new.self.nodes.items c.args.pattern.now c.deepest-node.result c.deepest-node.ensures (c.in_ok-plant.ensures.grows.keeps_room c.args.pattern.now room) in
    absurd (c.if-depth-pattern.false (ap length c.path-depth.ensures ∙ there))

pub returns-in-Some-clause-ready : goal.returns-in-Some-clause-ready
returns-in-Some-clause-ready c = λ room.
    let there = deepest_of_room c.plant.new.self.nodes.items c.args.pattern.now c.deepest-node.result c.deepest-node.ensures (c.in_ok-plant.ensures.grows.keeps_room c.args.pattern.now room) in
    absurd (c.if-depth-pattern.false (ap length c.path-depth.ensures ∙ there))
