use Rattle.std.proofs.Common.{◌≡◌, ℕ, List, Some, take, sym, ap, ◌∙◌, subst, slice_index}
use Rattle.prefix_match.specs.TrieTree.{FitsBelow, path_at, child_in}
use Rattle.prefix_match.proofs.TrieFits.{fork_fits}
use Rattle.prefix_match.proofs.TrieGrowth.{at_ok, other_byte}
use Rattle.prefix_match.proofs.trie.tree.Tree.split.Goals as goal

pub attach-requires : goal.attach-requires
attach-requires c =
    let nodes = c.args.self.now.nodes.items in
    let es = c.insert.new.self.entries in
    let long = c.path-long.ensures in
    let u = at_ok c.insert.result c.insert.ensures.updates (sym c.is_err.ensures.value ∙ c.if-is_err.false) in
    let one : child_in es (slice_index (path_at nodes c.args.child) c.args.len) ≡ Some c.args.child =
    ap (λ (p : List ℕ). child_in es (slice_index p c.args.len)) (sym long) ∙ u.1 in
    let others = λ (b : ℕ) (ne : b ≡ slice_index (path_at nodes c.args.child) c.args.len → ⊥).
    u.2 b (other_byte _ b (λ e. ne (e ∙ ap (λ (p : List ℕ). slice_index p c.args.len) long))) ∙ ap (λ (xs : List (ℕ × ℕ)). child_in xs b) c.new-children.ensures.empty in
    let path : c.in_ok-path.path.items ≡ take c.args.len (path_at nodes c.args.child) =
    c.in_ok-path.ensures.ok ∙ ap (λ (p : List ℕ). take c.args.len p) long in
    subst (λ (p : List ℕ). FitsBelow nodes c.args.parent p es) (sym path)
    (fork_fits nodes c.args.parent c.args.child c.args.len es c.args.self.now.tree c.requires.within c.requires.child c.requires.past c.requires.before one others)
