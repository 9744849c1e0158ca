-- The rows of a table.
use Rattle.std.proofs.Common.{◌≡◌, ℕ, ◌+◌, ◌<◌, ◌≤◌, ◌≢◌, ◌⊎◌, inl, inr, List, length, get_or, set, refl, sym, ◌∙◌, ap, arith}
use Rattle.std.proofs.lemmas.Bool.{cases_eq, cases_order}
use Rattle.std.proofs.lemmas.List.{get_or-set_same, get_or-set_other}
use Rattle.prefix_match.specs.declared.substring.trie.Node.{Node}
use Rattle.prefix_match.specs.SubstringStates.{node_at, IsTree}
use Rattle.prefix_match.specs.SubstringTable.{entry_of, column_of, HasColumns, WritesChildren}

-- the children above one are written
pub record IsWriting (nodes : List Node) (columns : List ℕ) (width s row : ℕ) (old new : List ℕ) (child : ℕ) : Type 0 where
  pub within : child < length nodes
  pub parent : 0 < child → (node_at nodes child).parent ≡ s
  pub last : (c : ℕ) → 0 < c → c < length nodes → (node_at nodes c).parent ≡ s → (c ≤ child) ⊎ (get_or new (row + column_of columns nodes c) 0 ≡ entry_of nodes width c)
  pub rest : (j : ℕ) → ((c : ℕ) → 0 < c → c < length nodes → (node_at nodes c).parent ≡ s → j ≡ row + column_of columns nodes c → ⊥) → get_or new j 0 ≡ get_or old j 0

pub writing_start : (nodes : List Node) (columns : List ℕ) (width s row : ℕ) (old : List ℕ) → IsTree nodes → s < length nodes → IsWriting nodes columns width s row old old (node_at nodes s).first_child
writing_start nodes columns width s row old t l = record {
  within = t.first_in s l;
  parent = t.first_parent s l;
  last = λ c up i p. inl (t.first_last s c l up i p);
  rest = λ j h. refl;
}

pub writing_more : (nodes : List Node) (columns : List ℕ) (width s row : ℕ) (old new : List ℕ) (child e : ℕ) → IsTree nodes → HasColumns nodes columns width → row + width ≤ length new → 0 < child → e ≡ entry_of nodes width child → IsWriting nodes columns width s row old new child → IsWriting nodes columns width s row old (set new (row + column_of columns nodes child) e) (node_at nodes child).next_sibling
writing_more nodes columns width s row old new child e t cols room up is h =
    let j : ℕ = row + column_of columns nodes child in
    let next : List ℕ = set new j e in
    let inside : j < length new = omega (arith, cols.below (node_at nodes child).byte) in
    let here : get_or next j 0 ≡ e = get_or-set_same new j e 0 inside in
    let other : (i : ℕ) → i ≢ j → get_or next i 0 ≡ get_or new i 0 = λ i d. get_or-set_other new j i e 0 d in
    let down : (node_at nodes child).next_sibling < child = t.next_less child up h.within in
    let siblings : (c : ℕ) → 0 < c → c < length nodes → (node_at nodes c).parent ≡ s → c ≢ child → row + column_of columns nodes c ≢ j =
    λ c vp l p d eq. (
    let b : (node_at nodes c).byte ≡ (node_at nodes child).byte = cols.own (node_at nodes c).byte child up h.within (omega arith) in
    let q : (node_at nodes c).parent ≡ (node_at nodes child).parent = p ∙ sym (h.parent up) in
    elim (cases_order c child) [
      | inl same ↦ d same
      | inr o ↦ elim o [
        | inl less ↦ t.distinct c child vp less h.within q b
        | inr more ↦ t.distinct child c up more l (sym q) (sym b)
      ]
    ]) in
    record {
      within = omega (arith, h.within);
      parent = λ vp. t.next_parent child up h.within vp ∙ h.parent up;
      last = λ c vp l p. elim (cases_eq c child) [
        | inl same ↦ inr (ap (λ z. get_or next (row + column_of columns nodes z) 0) same ∙ here ∙ is ∙ ap (entry_of nodes width) (sym same))
        | inr d ↦ elim (h.last c vp l p) [
          | inl low ↦ inl (t.next_last child c up h.within vp (omega arith) (p ∙ sym (h.parent up)))
          | inr done ↦ inr (other _ (siblings c vp l p d) ∙ done)
        ]
      ];
      rest = λ i apart. other i (apart child up h.within (h.parent up)) ∙ h.rest i apart;
    }

pub writing_end : (nodes : List Node) (columns : List ℕ) (width s row : ℕ) (old new : List ℕ) (child : ℕ) → length new ≡ length old → child ≡ 0 → IsWriting nodes columns width s row old new child → WritesChildren nodes columns width s row old new
writing_end nodes columns width s row old new child len z h = record {
  len = len;
  child = λ c up l p. elim (h.last c up l p) [ inl low ↦ absurd (omega arith) | inr done ↦ done ];
  rest = h.rest;
}
