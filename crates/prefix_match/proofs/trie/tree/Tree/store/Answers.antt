use Rattle.std.proofs.Common.{Option, ℕ, set, refl, ap, ◌∙◌}
use Rattle.std.proofs.lemmas.List.{map-set}
use Rattle.prefix_match.specs.declared.trie.tree.Node.{Node}
use Rattle.prefix_match.specs.TrieTree.{values}
use Rattle.prefix_match.proofs.TrieGrowth.{same_tree, same_map}
use Rattle.prefix_match.proofs.trie.tree.Tree.store.Goals as goal

pub invariant_of-self : goal.invariant_of-self
invariant_of-self c =
    let y : Node = record { path = c.index_mut.result.now.path; value = c.replace.new.self; children = c.index_mut.result.now.children } in
    record { tree = same_tree c.args.self.now.nodes.items c.args.node c.index_mut.result.now y c.requires c.index_mut.ensures.value refl refl c.args.self.now.tree }

pub returns-clause-paths : goal.returns-clause-paths
returns-clause-paths c =
    let y : Node = record { path = c.index_mut.result.now.path; value = c.replace.new.self; children = c.index_mut.result.now.children } in
    same_map (λ (z : Node). z.path.items) c.args.self.now.nodes.items c.args.node c.index_mut.result.now y c.requires c.index_mut.ensures.value refl

pub returns-clause-values : goal.returns-clause-values
returns-clause-values c =
    let y : Node = record { path = c.index_mut.result.now.path; value = c.replace.new.self; children = c.index_mut.result.now.children } in
    map-set (λ (z : Node). z.value) c.args.self.now.nodes.items c.args.node y ∙ ap (λ (v : Option ℕ). set (values c.args.self.now.nodes.items) c.args.node v) c.replace.ensures.after
