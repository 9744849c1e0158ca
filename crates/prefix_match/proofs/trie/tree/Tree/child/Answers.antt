use Rattle.std.proofs.Common.{◌≡◌, ◌∙◌}
use Rattle.prefix_match.specs.TrieTree.{child_at}
use Rattle.prefix_match.proofs.TrieNodes.{some_child_within, some_child_goes_on, child_read}
use Rattle.prefix_match.proofs.trie.tree.Tree.child.Goals as goal

pub returns-clause-within : goal.returns-clause-within
returns-clause-within c =
    let e : c.copied.result ≡ child_at c.args.self.now.nodes.items c.args.node c.args.byte = c.copied.ensures ∙ c.get.ensures.value ∙ child_read c.args.self.now.nodes.items c.args.node c.args.byte c.index.result.now c.requires c.index.ensures in
    some_child_within c.args.self.now.nodes.items c.args.node c.args.byte c.copied.result c.args.self.now.tree c.requires e

pub returns-clause-onward : goal.returns-clause-onward
returns-clause-onward c =
    let e : c.copied.result ≡ child_at c.args.self.now.nodes.items c.args.node c.args.byte = c.copied.ensures ∙ c.get.ensures.value ∙ child_read c.args.self.now.nodes.items c.args.node c.args.byte c.index.result.now c.requires c.index.ensures in
    some_child_goes_on c.args.self.now.nodes.items c.args.node c.args.byte c.copied.result c.args.self.now.tree c.requires e
