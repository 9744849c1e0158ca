-- The place where a pattern's way leaves that to a child.
use Rattle.std.proofs.Common.{◌≡◌, ℕ, ◌<◌, List, [], length, take, get_or, Some, None, sym, ap, ◌∙◌, subst, arith, slice_index, inl, inr}
use Rattle.std.proofs.lemmas.Bool.{cases_lt, cases_eq}
use Rattle.std.proofs.lemmas.List.{length-map, get_or_push, take_all, length-take-le, get_or_default}
use Rattle.std.specs.List.{Contains}
use Rattle.prefix_match.specs.declared.trie.tree.Node.{Node}
use Rattle.prefix_match.specs.TrieTree.{Begins, GoesOn, AreTree, AddsNode, IsDeepest, IsCommonLen, path_at, child_at, paths}
use Rattle.prefix_match.proofs.TrieFronts.{begins_at, begins_self, begins_fits}

-- the path of the node that was added
pub added_path : (old new : List Node) (path : List ℕ) (n : ℕ) → AddsNode old new path n → path_at new n ≡ path
added_path old new path n a =
    ap (λ ps. get_or ps n []) a.more_paths ∙ get_or_push (paths old) path [] n (length-map old (λ (x : Node). x.path.items) ∙ sym a.last)

-- the pattern has a node: then that is the deepest one
pub deepest_of_room : (nodes : List Node) (pattern : List ℕ) (n : ℕ) → IsDeepest nodes pattern n → Contains (paths nodes) pattern → length (path_at nodes n) ≡ length pattern
deepest_of_room nodes pattern n d (k, lk, e) =
    let lk' : k < length nodes = omega (arith, length-map nodes (λ (x : Node). x.path.items)) in
    let same : path_at nodes k ≡ pattern = get_or_default (paths nodes) k [] pattern lk ∙ e in
    let far = d.deepest k lk' (subst (λ (p : List ℕ). Begins p pattern) (sym same) (begins_self pattern)) in
    let fits = begins_fits (path_at nodes n) pattern d.begins in
    let len = ap length same in
    omega arith

module _ (nodes : List Node) (parent child shared : ℕ) (pattern : List ℕ) (t : AreTree nodes) (d : IsDeepest nodes pattern parent)
    (longer : length (path_at nodes parent) < length pattern)
    (ec : child_at nodes parent (slice_index pattern (length (path_at nodes parent))) ≡ Some child)
    (common : IsCommonLen (path_at nodes child) pattern shared) where
  on : GoesOn (path_at nodes parent) (path_at nodes child) (slice_index pattern (length (path_at nodes parent)))
  on = t.onward parent _ child d.within ec

  pub fork_past : length (path_at nodes parent) < shared
  fork_past =
      elim (cases_lt (length (path_at nodes parent)) shared) [
        | inl h ↦ h
        | inr h ↦
            let long = on.longer in
            elim (cases_eq shared (length (path_at nodes parent))) [
              | inl e ↦ absurd (common.differ (omega arith) (omega arith) (ap (slice_index (path_at nodes child)) e ∙ on.next_byte ∙ sym (ap (slice_index pattern) e)))
              | inr ne ↦
                  let short : shared < length (path_at nodes parent) = omega arith in
                  absurd (common.differ (omega arith) (omega arith)
                  (sym (begins_at (path_at nodes parent) (path_at nodes child) shared on.begins short) ∙ begins_at (path_at nodes parent) pattern shared d.begins short))
            ]
      ]

  pub fork_before : shared < length (path_at nodes child)
  fork_before =
      elim (cases_lt shared (length (path_at nodes child))) [
        | inl h ↦ h
        | inr h ↦
            let in_child = common.in_a in
            let e : shared ≡ length (path_at nodes child) = omega arith in
            let front : Begins (path_at nodes child) pattern =
            ap (λ n. take n pattern) (sym e) ∙ sym common.same ∙ take_all shared (path_at nodes child) h in
            let near = d.deepest child (t.below parent _ child d.within ec) front in
            let long = on.longer in
            absurd (omega arith)
      ]

  module _ (new : List Node) (middle : ℕ) (a : AddsNode nodes new (take shared (path_at nodes child)) middle) where
    pub fork_path : path_at new middle ≡ take shared pattern
    fork_path = added_path nodes new (take shared (path_at nodes child)) middle a ∙ common.same

    pub fork_length : length (path_at new middle) ≡ shared
    fork_length = ap length fork_path ∙ length-take-le shared pattern common.in_b

    pub fork_free : shared < length pattern → ((b : ℕ) → (b ≡ slice_index (path_at nodes child) shared → ⊥) → child_at new middle b ≡ None) →
        child_at new middle (slice_index pattern (length (path_at new middle))) ≡ None
    fork_free l others =
        ap (λ n. child_at new middle (slice_index pattern n)) fork_length
        ∙ others (slice_index pattern shared) (λ e. common.differ fork_before l (sym e))
