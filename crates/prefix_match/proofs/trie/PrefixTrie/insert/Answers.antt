use Rattle.std.proofs.Common.{ap, ◌∙◌, subst, sym}
use Rattle.prefix_match.specs.TriePatterns.{Patterns, stored, HasRoom}
use Rattle.prefix_match.proofs.TrieStored.{insert_old, insert_value, insert_others, insert_room}
use Rattle.prefix_match.proofs.trie.PrefixTrie.insert.Goals as goal

pub returns-clause-old : goal.returns-clause-old
returns-clause-old c =
    c.store.ensures.old
    ∙ insert_old c.self.inside.tree.nodes.items c.place.new.self.nodes.items c.store.new.self.nodes.items c.in_ok-node.node c.args.value c.args.pattern.now
    c.place.new.self.tree c.in_ok-node.ensures.ok c.in_ok-node.ensures.path c.in_ok-node.ensures.grows c.store.ensures.paths c.store.ensures.values
    ∙ ap (λ (p : Patterns). stored p.pairs c.args.pattern.now) c.self.view_is

pub returns-clause-value : goal.returns-clause-value
returns-clause-value c =
    insert_value c.self.inside.tree.nodes.items c.place.new.self.nodes.items c.store.new.self.nodes.items c.in_ok-node.node c.args.value c.args.pattern.now
    c.place.new.self.tree c.in_ok-node.ensures.ok c.in_ok-node.ensures.path c.in_ok-node.ensures.grows c.store.ensures.paths c.store.ensures.values

pub returns-clause-others : goal.returns-clause-others
returns-clause-others c = λ q other.
    insert_others c.self.inside.tree.nodes.items c.place.new.self.nodes.items c.store.new.self.nodes.items c.in_ok-node.node c.args.value c.args.pattern.now
    c.place.new.self.tree c.in_ok-node.ensures.ok c.in_ok-node.ensures.path c.in_ok-node.ensures.grows c.store.ensures.paths c.store.ensures.values q other
    ∙ ap (λ (p : Patterns). stored p.pairs q) c.self.view_is

pub returns-clause-keeps_room : goal.returns-clause-keeps_room
returns-clause-keeps_room c = λ q room.
    insert_room c.self.inside.tree.nodes.items c.place.new.self.nodes.items c.store.new.self.nodes.items c.in_ok-node.node c.args.value c.args.pattern.now
    c.place.new.self.tree c.in_ok-node.ensures.ok c.in_ok-node.ensures.path c.in_ok-node.ensures.grows c.store.ensures.paths c.store.ensures.values q
    (subst (λ (p : Patterns). HasRoom p q) (sym c.self.view_is) room)
