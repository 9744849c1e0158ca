use Rattle.std.proofs.Common.{◌≡◌, ◌≤◌, ℕ, ◌+◌, Vec, Global, vec_len, sym, take, ap, ◌∙◌, arith, subst, map, ◌++◌, length, List, [], ◌∷◌, false}
use Rattle.prefix_match.specs.declared.substring.trie.Node.{Node}
use Rattle.std.proofs.lemmas.List.{take_all, map_more}
use Rattle.std.proofs.lemmas.List.Sums.{sum_by_more}
use Rattle.prefix_match.specs.Substring.{lowered}
use Rattle.prefix_match.specs.SubstringStates.{IsTrie}
use Rattle.prefix_match.proofs.SubstringInserts.{root_trie}
use Rattle.prefix_match.proofs.substring.trie.grown.Goals as goal

pub loop-pattern-init : goal.loop-pattern-init
loop-pattern-init c =
    let root : Node = record { byte = 0; matching = false; parent = 0; first_child = 0; next_sibling = 0; fail = 0 } in
    let one : c.push.new.self.items ≡ root ∷ [] = (c.in_ok-push.ensures {u = tt}).items ∙ ap (λ (xs : List Node). xs ++ root ∷ []) c.new-nodes.ensures.items in
    record {
      trie = root_trie c.push.new.self.items 0 one;
      room = omega (arith, (c.in_ok-push.ensures {u = tt}).len, c.new-nodes.ensures.len);
    }

pub returns-clause-trie : goal.returns-clause-trie
returns-clause-trie c =
    let all : length c.args.patterns.now ≤ c.loop-pattern.pattern-index = omega arith in
    subst (λ ps. IsTrie (map (λ p. lowered c.args.fold_case p.items) ps) c.loop-pattern.nodes.items) (take_all c.loop-pattern.pattern-index c.args.patterns.now all) c.loop-pattern.invariant.trie

pub insert-requires-clause-tree : goal.insert-requires-clause-tree
insert-requires-clause-tree c = c.loop-pattern.invariant.trie.tree

pub loop-pattern-preserved : goal.loop-pattern-preserved
loop-pattern-preserved c =
    let new = c.insert.new.nodes.items in
    let f = λ (p : Vec ℕ Global). lowered c.args.fold_case p.items in
    let ps = c.args.patterns.now in
    let i = c.loop-pattern.pattern-index in
    let more : map f (take (i + 1) ps) ≡ map f (take i ps) ++ lowered c.args.fold_case c.deref.result.now ∷ [] =
    map_more f ps i c.pattern-item.result c.loop-pattern-test.true ∙ sym (ap (λ p. map f (take i ps) ++ f p ∷ []) c.pattern-item.is) ∙ sym (ap (λ q. map f (take i ps) ++ lowered c.args.fold_case q ∷ []) c.deref.ensures.value) in
    record {
      trie = subst (λ qs. IsTrie qs new) (sym more) ((c.in_ok-insert.ensures {u = tt}).trie (map f (take i ps)) c.loop-pattern.invariant.trie);
      room = omega (arith, sum_by_more (λ (p : Vec ℕ Global). vec_len p) ps i c.pattern-item.result c.loop-pattern-test.true, ap (λ (p : Vec ℕ Global). vec_len p) c.pattern-item.is, c.deref.ensures.len, (c.in_ok-insert.ensures {u = tt}).room, c.loop-pattern.invariant.room);
    }
