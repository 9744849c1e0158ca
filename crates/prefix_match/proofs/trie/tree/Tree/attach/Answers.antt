use Rattle.std.proofs.Common.{◌≡◌, ◌<◌, ℕ, List, [], ◌∷◌, ◌++◌, set, Some, None, length, sym, ap, ◌∙◌, subst, arith, refl, slice_index}
use Rattle.std.proofs.lemmas.List.{get_or_read}
use Rattle.std.specs.Ordering.{nat_cmp}
use Rattle.std.specs.BTreeMap.{Updates}
use Rattle.prefix_match.specs.declared.trie.tree.Node.{Node}
use Rattle.prefix_match.specs.TrieTree.{AreTree, FitsBelow, SameNodes, AddsNode, path_at}
use Rattle.prefix_match.proofs.TrieGrowth.{same_tree, same_nodes, added_node, grown_tree, at_ok, at_err}
use Rattle.prefix_match.proofs.TrieNodes.{path_read}
use Rattle.prefix_match.proofs.trie.tree.Tree.attach.Goals as goal

pub invariant_of-self-then-is_err-2 : goal.invariant_of-self-then-is_err-2
invariant_of-self-then-is_err-2 c =
    let nodes = c.reserve.new.self.items in
    let e = c.reserve.ensures.items in
    let y : Node = record { path = c.index_mut-above.result.now.path; value = c.index_mut-above.result.now.value; children = c.insert.new.self } in
    let within : c.args.parent < length nodes = subst (λ (ns : List Node). c.args.parent < length ns) (sym e) c.requires.within in
    let kept = at_err c.insert.result c.insert.ensures.err (sym c.is_err-2.ensures.value ∙ c.if-is_err-2.true) in
    record { tree = same_tree nodes c.args.parent c.index_mut-above.result.now y within c.index_mut-above.ensures.value refl kept (subst AreTree (sym e) c.args.self.now.tree) }

pub returns-then-is_err-2-clause-err : goal.returns-then-is_err-2-clause-err
returns-then-is_err-2-clause-err c =
    let nodes = c.reserve.new.self.items in
    let e = c.reserve.ensures.items in
    let y : Node = record { path = c.index_mut-above.result.now.path; value = c.index_mut-above.result.now.value; children = c.insert.new.self } in
    let within : c.args.parent < length nodes = subst (λ (ns : List Node). c.args.parent < length ns) (sym e) c.requires.within in
    subst (λ (ns : List Node). SameNodes ns (set nodes c.args.parent y)) e (same_nodes nodes c.args.parent c.index_mut-above.result.now y within c.index_mut-above.ensures.value (record { path = refl; value = refl }))

pub invariant_of-self-2 : goal.invariant_of-self-2
invariant_of-self-2 c =
    let nodes = c.reserve.new.self.items in
    let e = c.reserve.ensures.items in
    let y : Node = record { path = c.index_mut-above.result.now.path; value = c.index_mut-above.result.now.value; children = c.insert.new.self } in
    let new : Node = record { path = c.args.path; value = None; children = c.args.children } in
    let within : c.args.parent < length nodes = subst (λ (ns : List Node). c.args.parent < length ns) (sym e) c.requires.within in
    let added : c.len-added.result ≡ length nodes = omega (arith, ap length e) in
    let fits : FitsBelow nodes c.args.parent c.args.path.items c.args.children.entries =
    subst (λ (ns : List Node). FitsBelow ns c.args.parent c.args.path.items c.args.children.entries) (sym e) c.requires in
    let longer = fits.longer in
    let depth : c.len.result ≡ length (path_at nodes c.args.parent) =
    omega (arith, ap length (path_read nodes c.args.parent c.index_mut-above.result.now within c.index_mut-above.ensures.value)) in
    let byte : c.index-byte.result.now ≡ slice_index c.args.path.items (length (path_at nodes c.args.parent)) =
    get_or_read c.args.path.items c.len.result c.index-byte.result.now (omega arith) c.index-byte.ensures 0 ∙ ap (λ n. slice_index c.args.path.items n) depth in
    let updates = subst (λ (n : ℕ). Updates nat_cmp c.index_mut-above.result.now.children c.insert.new.self c.index-byte.result.now (Some n)) added
    (at_ok c.insert.result c.insert.ensures.updates (sym c.is_err-2.ensures.value ∙ c.if-is_err-2.false)) in
    record {
      tree = subst AreTree (sym c.push_reserved.ensures.items)
          (grown_tree nodes c.args.parent c.index_mut-above.result.now y new within c.index_mut-above.ensures.value (record { path = refl; value = refl })
          c.index-byte.result.now (subst AreTree (sym e) c.args.self.now.tree) fits
          byte updates);
    }

pub returns-clause-ok : goal.returns-clause-ok
returns-clause-ok c =
    let nodes = c.reserve.new.self.items in
    let e = c.reserve.ensures.items in
    let y : Node = record { path = c.index_mut-above.result.now.path; value = c.index_mut-above.result.now.value; children = c.insert.new.self } in
    let new : Node = record { path = c.args.path; value = None; children = c.args.children } in
    let within : c.args.parent < length nodes = subst (λ (ns : List Node). c.args.parent < length ns) (sym e) c.requires.within in
    let added : length nodes ≡ c.len-added.result = omega (arith, ap length e) in
    subst (λ (ns : List Node). AddsNode ns c.push_reserved.new.self.items c.args.path.items c.len-added.result) e
    (subst (λ (ns : List Node). AddsNode nodes ns c.args.path.items c.len-added.result) (sym c.push_reserved.ensures.items)
    (subst (λ (n : ℕ). AddsNode nodes (set nodes c.args.parent y ++ new ∷ []) c.args.path.items n) added
    (added_node nodes c.args.parent c.index_mut-above.result.now y new within c.index_mut-above.ensures.value (record { path = refl; value = refl }) refl)))
