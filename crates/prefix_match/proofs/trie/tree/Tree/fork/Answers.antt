use Rattle.std.proofs.Common.{List, ℕ, arith, subst, take}
use Rattle.prefix_match.specs.TrieTree.{IsCommonLen, path_at}
use Rattle.prefix_match.proofs.TrieForks.{fork_past, fork_before, fork_free}
use Rattle.prefix_match.proofs.TriePairs.{grows_trans, added_grows, result_grows}
use Rattle.prefix_match.proofs.trie.tree.Tree.fork.Goals as goal

pub split-requires-clause-past : goal.split-requires-clause-past
split-requires-clause-past c =
    let pattern = c.args.pattern.now in
    let common = subst (λ (p : List ℕ). IsCommonLen p pattern c.common_len-shared.result) c.path.ensures c.common_len-shared.ensures in
    fork_past c.args.self.now.nodes.items c.args.parent c.args.child c.common_len-shared.result pattern c.args.self.now.tree c.requires.deepest c.requires.longer c.requires.child common

pub split-requires-clause-before : goal.split-requires-clause-before
split-requires-clause-before c =
    let pattern = c.args.pattern.now in
    let common = subst (λ (p : List ℕ). IsCommonLen p pattern c.common_len-shared.result) c.path.ensures c.common_len-shared.ensures in
    fork_before c.args.self.now.nodes.items c.args.parent c.args.child c.common_len-shared.result pattern c.args.self.now.tree c.requires.deepest c.requires.longer c.requires.child common

pub returns-then-shared-pattern-clause-grows : goal.returns-then-shared-pattern-clause-grows
returns-then-shared-pattern-clause-grows c =
    added_grows c.args.self.now.nodes.items c.split.new.self.nodes.items (take c.common_len-shared.result (path_at c.args.self.now.nodes.items c.args.child)) c.in_ok-middle.middle c.in_ok-middle.ensures.ok

pub add_leaf-requires-clause-free : goal.add_leaf-requires-clause-free
add_leaf-requires-clause-free c =
    let pattern = c.args.pattern.now in
    let common = subst (λ (p : List ℕ). IsCommonLen p pattern c.common_len-shared.result) c.path.ensures c.common_len-shared.ensures in
    let in_pattern = common.in_b in
    fork_free c.args.self.now.nodes.items c.args.parent c.args.child c.common_len-shared.result pattern c.args.self.now.tree c.requires.deepest c.requires.longer c.requires.child common
    c.split.new.self.nodes.items c.in_ok-middle.middle c.in_ok-middle.ensures.ok (omega arith) c.in_ok-middle.ensures.others

pub returns-clause-grows : goal.returns-clause-grows
returns-clause-grows c =
    grows_trans c.args.self.now.nodes.items c.split.new.self.nodes.items c.add_leaf.new.self.nodes.items
    (added_grows c.args.self.now.nodes.items c.split.new.self.nodes.items (take c.common_len-shared.result (path_at c.args.self.now.nodes.items c.args.child)) c.in_ok-middle.middle c.in_ok-middle.ensures.ok)
    (result_grows c.split.new.self.nodes.items c.add_leaf.new.self.nodes.items c.args.pattern.now c.add_leaf.result c.add_leaf.ensures.ok c.add_leaf.ensures.err)
