use Rattle.std.proofs.Common.{ℕ, ◌<◌, arith, ap, length}
use Rattle.std.proofs.lemmas.List.{get_or_read}
use Rattle.prefix_match.specs.SubstringStates.{no_node}
use Rattle.prefix_match.proofs.SubstringStates.{with_child_is}
use Rattle.prefix_match.proofs.substring.trie.add.Goals as goal

pub returns-clause-nodes : goal.returns-clause-nodes
returns-clause-nodes c =
    let nodes = c.args.nodes.now.items in
    let s : ℕ = c.args.state in
    let within : s < length nodes = omega (arith, c.args.nodes.now.ok.0) in
    let read = get_or_read nodes s c.index.result.now within c.index.ensures no_node in
    with_child_is nodes c.push.new.self.items s c.args.byte c.len-made.result c.index.result.now.first_child c.index_mut.result.now
    within (ap (λ n. n.first_child) read) (omega (arith, c.args.nodes.now.ok.0)) (c.in_ok-push.ensures {u = tt}).items c.index_mut.ensures.value
