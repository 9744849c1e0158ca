-- A change of a state's match or fail link keeps the tree and the texts.
use Rattle.std.proofs.Common.{◌≡◌, ℕ, ◌<◌, inl, inr, List, length, set, refl, sym, ◌∙◌, ap, arith}
use Rattle.std.proofs.lemmas.Bool.{cases_eq}
use Rattle.std.proofs.lemmas.List.{get_or-set_same, get_or-set_other, length-set}
use Rattle.prefix_match.specs.declared.substring.trie.Node.{Node}
use Rattle.prefix_match.specs.SubstringStates.{no_node, node_at, text_of, IsTree, IsChild, HasNoChild, HasFronts, IsRootRow, KeepsShape}
use Rattle.prefix_match.proofs.SubstringStates.{same_texts}

pub shape-refl : (nodes : List Node) → KeepsShape nodes nodes
shape-refl nodes = record { len = refl; parent = λ x. refl; byte_is = λ x. refl; first = λ x. refl; next = λ x. refl }

pub shape-trans : (a b c : List Node) → KeepsShape a b → KeepsShape b c → KeepsShape a c
shape-trans a b c h k = record {
  len = k.len ∙ h.len;
  parent = λ x. k.parent x ∙ h.parent x;
  byte_is = λ x. k.byte_is x ∙ h.byte_is x;
  first = λ x. k.first x ∙ h.first x;
  next = λ x. k.next x ∙ h.next x;
}

pub shape-set : (nodes : List Node) (s : ℕ) (v : Node) → s < length nodes → v.parent ≡ (node_at nodes s).parent → v.byte ≡ (node_at nodes s).byte → v.first_child ≡ (node_at nodes s).first_child → v.next_sibling ≡ (node_at nodes s).next_sibling → KeepsShape nodes (set nodes s v)
shape-set nodes s v l p b f n =
    let same : node_at (set nodes s v) s ≡ v = get_or-set_same nodes s v no_node l in
    let by : (g : Node → ℕ) → g v ≡ g (node_at nodes s) → (x : ℕ) → g (node_at (set nodes s v) x) ≡ g (node_at nodes x) =
    λ g e x. elim (cases_eq x s) [
      | inl q ↦ ap (λ z. g (node_at (set nodes s v) z)) q ∙ ap g same ∙ e ∙ ap (λ z. g (node_at nodes z)) (sym q)
      | inr d ↦ ap g (get_or-set_other nodes s x v no_node d)
    ] in
    record {
      len = length-set nodes s v;
      parent = by (λ y. y.parent) p;
      byte_is = by (λ y. y.byte) b;
      first = by (λ y. y.first_child) f;
      next = by (λ y. y.next_sibling) n;
    }

pub shape_text : (old new : List Node) → KeepsShape old new → IsTree old → (x : ℕ) → x < length old → text_of new x ≡ text_of old x
shape_text old new k t x l = same_texts old new t (λ y i. k.parent y) (λ y i. k.byte_is y) x l

pub shape_tree : (old new : List Node) → KeepsShape old new → IsTree old → IsTree new
shape_tree old new k t =
    let n : length new ≡ length old = k.len in
    record {
      root = omega (arith, t.root);
      root_parent = k.parent 0 ∙ t.root_parent;
      parents = λ c up i. omega (arith, k.parent c, t.parents c up (omega arith));
      distinct = λ c d up less i p q. t.distinct c d up less (omega arith) (sym (k.parent c) ∙ p ∙ k.parent d) (sym (k.byte_is c) ∙ q ∙ k.byte_is d);
      first_in = λ s i. omega (arith, k.first s, t.first_in s (omega arith));
      first_parent = λ s i up. ap (λ z. (node_at new z).parent) (k.first s) ∙ k.parent _ ∙ t.first_parent s (omega arith) (omega (arith, k.first s));
      first_last = λ s c i up j p. omega (arith, k.first s, t.first_last s c (omega arith) up (omega arith) (sym (k.parent c) ∙ p));
      next_less = λ c up i. omega (arith, k.next c, t.next_less c up (omega arith));
      next_parent = λ c up i z. ap (λ y. (node_at new y).parent) (k.next c) ∙ k.parent _ ∙ t.next_parent c up (omega arith) (omega (arith, k.next c)) ∙ sym (k.parent c);
      next_last = λ c d up i vp less p. omega (arith, k.next c, t.next_last c d up (omega arith) vp less (sym (k.parent d) ∙ p ∙ k.parent c));
    }

pub shape_fronts : (ps : List (List ℕ)) (old new : List Node) → KeepsShape old new → IsTree old → HasFronts ps old → HasFronts ps new
shape_fronts ps old new k t h =
    let n : length new ≡ length old = k.len in
    record {
      fronts = λ w e. (let f = h.fronts w e in (f.0, (omega (arith, f.1.0), shape_text old new k t f.0 f.1.0 ∙ f.1.1)));
      only = λ x up i. rw (shape_text old new k t x (omega arith)) (h.only x up (omega arith));
    }

pub shape_child : (old new : List Node) → KeepsShape old new → (s b c : ℕ) → IsChild old s b c → IsChild new s b c
shape_child old new k s b c h = record {
  above = h.above;
  within = omega (arith, k.len, h.within);
  parent = k.parent c ∙ h.parent;
  byte_is = k.byte_is c ∙ h.byte_is;
}

pub shape_none : (old new : List Node) → KeepsShape old new → (s b : ℕ) → HasNoChild old s b → HasNoChild new s b
shape_none old new k s b h = λ c up i p q. h c up (omega (arith, k.len)) (sym (k.parent c) ∙ p) (sym (k.byte_is c) ∙ q)

pub shape_roots : (old new : List Node) (roots : List ℕ) → KeepsShape old new → IsRootRow old roots → IsRootRow new roots
shape_roots old new roots k h = record {
  len = h.len;
  found = λ y i up. shape_child old new k 0 y _ (h.found y i up);
  none = λ y i z. shape_none old new k 0 y (h.none y i z);
}
