use Rattle.std.proofs.Common.{ℕ, List, [], sym, subst}
use Rattle.prefix_match.specs.TrieTree.{FitsBelow}
use Rattle.prefix_match.proofs.TrieFits.{leaf_fits}
use Rattle.prefix_match.proofs.trie.tree.Tree.add_leaf.Goals as goal

pub attach-requires : goal.attach-requires
attach-requires c =
    let nodes = c.args.self.now.nodes.items in
    subst (λ (es : List (ℕ × ℕ)). FitsBelow nodes c.args.parent c.in_ok-path.path.items es) (sym c.new.ensures.empty)
    (subst (λ (p : List ℕ). FitsBelow nodes c.args.parent p []) (sym c.in_ok-path.ensures.ok)
    (leaf_fits nodes c.args.parent c.args.pattern.now c.args.self.now.tree c.requires.within c.requires.longer c.requires.begins c.requires.free))
