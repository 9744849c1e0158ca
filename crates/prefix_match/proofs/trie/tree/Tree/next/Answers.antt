use Rattle.std.proofs.Common.{arith, ap, length, ◌+◌, refl}
use Rattle.std.proofs.lemmas.List.{take_rest}
use Rattle.prefix_match.specs.TrieTree.{path_at}
use Rattle.prefix_match.proofs.TrieFronts.{begins_fits}
use Rattle.prefix_match.proofs.TrieNodes.{deepest_at_none, deepest_at_other, next_at_child}
use Rattle.prefix_match.proofs.trie.tree.Tree.next.Goals as goal

pub returns-in_err-child-clause-last : goal.returns-in_err-child-clause-last
returns-in_err-child-clause-last c =
    rw c.from_residual.ensures
    (deepest_at_none c.args.self.now.nodes.items c.args.text.now c.args.node c.path-depth.result.now
    c.args.self.now.tree c.requires.within c.requires.begins c.path-depth.ensures c.in_err-child.ensures.value)

pub returns-then-starts_with-clause-next : goal.returns-then-starts_with-clause-next
returns-then-starts_with-clause-next c =
    let v = simp take_rest at c.starts_with.ensures.value in
    let b = simp take_rest at c.starts_with.ensures.bound in
    next_at_child c.args.self.now.nodes.items c.args.text.now c.args.node c.in_ok-child.child c.path-depth.result.now c.path.result.now (length c.path-depth.result.now + 1) c.starts_with.result
    c.args.self.now.tree c.requires.within c.requires.begins c.path-depth.ensures c.path.ensures c.in_ok-child.ensures.value
    refl (omega (arith, ap length c.path-depth.ensures, begins_fits (path_at c.args.self.now.nodes.items c.args.node) c.args.text.now c.requires.begins)) v b c.if-starts_with.true

pub returns-else-starts_with-clause-last : goal.returns-else-starts_with-clause-last
returns-else-starts_with-clause-last c =
    let v = simp take_rest at c.starts_with.ensures.value in
    deepest_at_other c.args.self.now.nodes.items c.args.text.now c.args.node c.in_ok-child.child c.path-depth.result.now c.path.result.now (length c.path-depth.result.now + 1) c.starts_with.result
    c.args.self.now.tree c.requires.within c.requires.begins c.path-depth.ensures c.path.ensures c.in_ok-child.ensures.value
    refl (omega (arith, ap length c.path-depth.ensures, begins_fits (path_at c.args.self.now.nodes.items c.args.node) c.args.text.now c.requires.begins)) v c.if-starts_with.false
