use Rattle.prefix_match.proofs.TrieNodes.{best_at_next, value_read}
use Rattle.prefix_match.proofs.trie.tree.Tree.longest.Goals as goal

pub loop-child-preserved : goal.loop-child-preserved
loop-child-preserved c =
    let nodes = c.args.self.now.nodes.items in
    let on = c.in-Some.ensures.next in
    record {
      within = on.within;
      begins = on.begins;
      is_best = best_at_next nodes c.args.text.now c.loop-child.node c.in-Some.child c.loop-child.best c.index-in-Some.result.now.value c.or-best.result
          c.args.self.now.tree c.loop-child.invariant.is_best on (value_read nodes c.in-Some.child c.index-in-Some.result.now on.within c.index-in-Some.ensures) c.or-best.ensures;
    }
