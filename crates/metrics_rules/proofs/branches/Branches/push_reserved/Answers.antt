use Rattle.std.proofs.Common.{arith, ◌∷◌, [], ap, sym, ◌∙◌, subst}
use Rattle.metrics_rules.specs.Nodes.{node_meaning, leaves_in, IsSound, starts_from}
use Rattle.metrics_rules.specs.Branches.{meanings, AreSound}
use Rattle.std.proofs.lemmas.List.{map-append}
use Rattle.std.proofs.lemmas.List.Elements.{All-push}
use Rattle.metrics_rules.proofs.JoinedLemmas.{leaves-one, starts-pushed}
use Rattle.metrics_rules.proofs.branches.Branches.push_reserved.Goals as goal

pub overflow_add-end : goal.overflow_add-end
overflow_add-end c = omega (arith, c.args.self.now.count, c.leaves.ensures.count, c.requires.few)

pub invariant_of-self : goal.invariant_of-self
invariant_of-self c =
    let s = c.args.self.now in
    let xs = meanings s.children.items in
    let a = node_meaning c.args.child.node in
    let more = ap meanings c.push_reserved.ensures.items ∙ map-append node_meaning s.children.items (c.args.child.node ∷ []) in
    let all = ap leaves_in more ∙ leaves-one xs a in
    record {
      starts_are = c.push_reserved-2.ensures.items ∙ starts-pushed xs a s.starts.items s.leaves s.starts_are s.count ∙ ap (starts_from 0) (sym more);
      count = omega (arith, all, s.count, c.leaves.ensures.count);
      sound = subst AreSound (sym c.push_reserved.ensures.items) (All-push IsSound s.children.items c.args.child.node s.sound c.args.child.tree.0);
      most = omega (arith, s.count, c.leaves.ensures.count, c.requires.few);
    }
