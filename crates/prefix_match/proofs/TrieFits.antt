-- Where a leaf and a fork fit into the tree.
use Rattle.std.proofs.Common.{◌≡◌, ℕ, ◌<◌, List, [], length, take, Option, Some, None, unwrap_or, sym, ap, ◌∙◌, subst, arith, slice_index, inl, inr}
use Rattle.std.proofs.lemmas.Bool.{cases_eq}
use Rattle.std.proofs.lemmas.List.{length-take-le}
use Rattle.prefix_match.specs.declared.trie.tree.Node.{Node}
use Rattle.prefix_match.specs.TrieTree.{Begins, GoesOn, AreTree, FitsBelow, path_at, child_at, child_in}
use Rattle.prefix_match.proofs.TrieFronts.{begins_trans, begins_fits, begins_at, begins_self, begins_take, begins_shorter}
use Rattle.prefix_match.proofs.TrieWays.{way_none, way_some}

none_is_some : (c : ℕ) → ◌≡◌ {A = Option ℕ} None (Some c) → ⊥
none_is_some c e = cc

some_is : (c d : ℕ) → Some c ≡ Some d → c ≡ d
some_is c d e = cc

-- what goes on past a longer prefix goes on past a shorter one, by the longer one's byte
past_front : (p q s : List ℕ) → Begins p q → length p < length q → Begins q s → GoesOn p s (slice_index q (length p))
past_front p q s bp l bq =
    let fits = begins_fits q s bq in
    record { begins = begins_trans p q s bp bq; longer = omega arith; next_byte = sym (begins_at q s (length p) bq l) }

pub leaf_fits : (nodes : List Node) (parent : ℕ) (pattern : List ℕ) → AreTree nodes → parent < length nodes → length (path_at nodes parent) < length pattern → Begins (path_at nodes parent) pattern →
    child_at nodes parent (slice_index pattern (length (path_at nodes parent))) ≡ None → FitsBelow nodes parent pattern []
leaf_fits nodes parent pattern t within longer begins free =
    let no : (m : ℕ) → m < length nodes → GoesOn (path_at nodes parent) (path_at nodes m) (slice_index pattern (length (path_at nodes parent))) → ⊥ =
    λ m lm on. way_none (length nodes) (path_at nodes) (child_at nodes) t parent m _ within lm on free in
    record {
      within = within;
      longer = longer;
      begins = begins;
      below = λ b c e. absurd (none_is_some c e);
      onward = λ b c e. absurd (none_is_some c e);
      apart = λ m lm e. no m lm (past_front (path_at nodes parent) pattern (path_at nodes m) begins longer (subst (λ (x : List ℕ). Begins pattern x) e (begins_self pattern)));
      reaches = λ m b lm on. absurd (no m lm (past_front (path_at nodes parent) pattern (path_at nodes m) begins longer on.begins));
      taken = λ m lm on. absurd (no m lm on);
    }

module _ (nodes : List Node) (parent child len : ℕ) (es : List (ℕ × ℕ)) (t : AreTree nodes) (within : parent < length nodes)
    (ec : child_at nodes parent (slice_index (path_at nodes child) (length (path_at nodes parent))) ≡ Some child)
    (past : length (path_at nodes parent) < len) (before : len < length (path_at nodes child))
    (one : child_in es (slice_index (path_at nodes child) len) ≡ Some child)
    (others : (b : ℕ) → (b ≡ slice_index (path_at nodes child) len → ⊥) → child_in es b ≡ None) where
  size : length (take len (path_at nodes child)) ≡ len
  size = length-take-le len (path_at nodes child) (omega arith)

  front : Begins (take len (path_at nodes child)) (path_at nodes child)
  front = begins_take len (path_at nodes child) (omega arith)

  parent_front : Begins (path_at nodes parent) (take len (path_at nodes child))
  parent_front =
      begins_shorter (path_at nodes parent) (take len (path_at nodes child)) (path_at nodes child)
      (t.onward parent (slice_index (path_at nodes child) (length (path_at nodes parent))) child within ec).begins front (omega (arith, size))

  longer : length (path_at nodes parent) < length (take len (path_at nodes child))
  longer = omega (arith, size)

  -- past the fork, a path runs along the child's
  along : (m : ℕ) → m < length nodes → GoesOn (path_at nodes parent) (path_at nodes m) (slice_index (take len (path_at nodes child)) (length (path_at nodes parent))) → Begins (path_at nodes child) (path_at nodes m)
  along m lm on =
      let same : slice_index (take len (path_at nodes child)) (length (path_at nodes parent)) ≡ slice_index (path_at nodes child) (length (path_at nodes parent)) =
      begins_at (take len (path_at nodes child)) (path_at nodes child) (length (path_at nodes parent)) front longer in
      way_some (length nodes) (path_at nodes) (child_at nodes) t parent m _ child within lm (subst (λ (b : ℕ). GoesOn (path_at nodes parent) (path_at nodes m) b) same on) ec

  along_past : (m : ℕ) → m < length nodes → Begins (take len (path_at nodes child)) (path_at nodes m) → Begins (path_at nodes child) (path_at nodes m)
  along_past m lm b = along m lm (past_front (path_at nodes parent) (take len (path_at nodes child)) (path_at nodes m) parent_front longer b)

  next_is : slice_index (path_at nodes child) (length (take len (path_at nodes child))) ≡ slice_index (path_at nodes child) len
  next_is = ap (λ n. slice_index (path_at nodes child) n) size

  only : (b c : ℕ) → child_in es b ≡ Some c → (b ≡ slice_index (path_at nodes child) len) × (c ≡ child)
  only b c e =
      elim (cases_eq b (slice_index (path_at nodes child) len)) [
        | inl eb ↦ (eb, some_is c child (sym e ∙ ap (child_in es) eb ∙ one))
        | inr ne ↦ absurd (none_is_some c (sym (others b ne) ∙ e))
      ]

  on_child : GoesOn (take len (path_at nodes child)) (path_at nodes child) (slice_index (path_at nodes child) len)
  on_child = record { begins = front; longer = omega (arith, size); next_byte = next_is }

  pub fork_fits : FitsBelow nodes parent (take len (path_at nodes child)) es
  fork_fits = record {
    within = within;
    longer = longer;
    begins = parent_front;
    below = λ b c e. subst (λ (x : ℕ). x < length nodes) (sym (only b c e).1) (t.below parent _ child within ec);
    onward = λ b c e.
        subst (λ (x : ℕ). GoesOn (take len (path_at nodes child)) (path_at nodes x) b) (sym (only b c e).1)
        (subst (λ (x : ℕ). GoesOn (take len (path_at nodes child)) (path_at nodes child) x) (sym (only b c e).0) on_child);
    apart = λ m lm e.
        let whole = begins_fits (path_at nodes child) (path_at nodes m) (along_past m lm (subst (λ (x : List ℕ). Begins (take len (path_at nodes child)) x) e (begins_self (take len (path_at nodes child))))) in
        let same = ap length e in
        absurd (omega (arith, size));
    reaches = λ m b lm on.
        let down = along_past m lm on.begins in
        let byte : b ≡ slice_index (path_at nodes child) len =
        sym on.next_byte ∙ sym (begins_at (path_at nodes child) (path_at nodes m) (length (take len (path_at nodes child))) down (omega (arith, size))) ∙ next_is in
        subst (λ (o : Option ℕ). (length (take len (path_at nodes child)) < length (path_at nodes (unwrap_or o 0))) × Begins (path_at nodes (unwrap_or o 0)) (path_at nodes m))
        (sym (ap (child_in es) byte ∙ one)) (on_child.longer, down);
    taken = λ m lm on. begins_trans (take len (path_at nodes child)) (path_at nodes child) (path_at nodes m) front (along m lm on);
  }
