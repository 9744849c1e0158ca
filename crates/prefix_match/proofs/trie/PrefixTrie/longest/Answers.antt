use Rattle.std.proofs.Common.{IfSome, IfNone, subst}
use Rattle.prefix_match.specs.TriePatterns.{Patterns, IsLongest, HasNoFront}
use Rattle.prefix_match.proofs.TrieStored.{longest_some, longest_none}
use Rattle.prefix_match.proofs.trie.PrefixTrie.longest.Goals as goal

pub returns-clause-longest : goal.returns-clause-longest
returns-clause-longest c =
    subst (λ (p : Patterns). IfSome c.longest.result (IsLongest p.pairs c.args.text.now)) c.self.view_is
    (longest_some c.self.inside.tree.nodes.items c.args.text.now c.longest.result c.self.inside.tree.tree c.longest.ensures)

pub returns-clause-none : goal.returns-clause-none
returns-clause-none c =
    subst (λ (p : Patterns). IfNone c.longest.result (HasNoFront p.pairs c.args.text.now)) c.self.view_is
    (longest_none c.self.inside.tree.nodes.items c.args.text.now c.longest.result c.self.inside.tree.tree c.longest.ensures)
