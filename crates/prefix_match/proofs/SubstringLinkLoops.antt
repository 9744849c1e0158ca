-- The loop that links all states.
use Rattle.std.proofs.Common.{◌≡◌, ℕ, ◌+◌, ◌<◌, ◌≤◌, ◌≢◌, inl, inr, List, length, get_or, drop, sym, ◌∙◌, ap, subst, arith}
use Rattle.std.specs.List.{Contains}
use Rattle.std.proofs.lemmas.Bool.{cases_lt, cases_eq}
use Rattle.std.proofs.lemmas.List.{get_or_default}
use Rattle.prefix_match.specs.declared.substring.trie.Node.{Node}
use Rattle.prefix_match.specs.declared.substring.trie.Place.{Place}
use Rattle.prefix_match.specs.Substring.{is_pattern, some_ends, longest_front}
use Rattle.prefix_match.specs.SubstringStates.{node_at, text_of, IsTree, HasFronts, IsTrie, IsByDepth, KeepsShape, Falls, FallsBelow, IsLink, IsLinkedBelow, IsMarked, IsLinked}
use Rattle.prefix_match.proofs.SubstringStates.{last_or_before}
use Rattle.prefix_match.proofs.SubstringDepths.{no_place}
use Rattle.prefix_match.proofs.SubstringShapes.{shape-refl, shape-trans, shape_text, shape_tree, shape_fronts}

abbrev state_in : List Place → ℕ → ℕ
state_in order j = (get_or order j no_place).state

-- the first k states in the order are linked
pub record IsLinking (old new : List Node) (order : List Place) (k : ℕ) : Type 0 where
  pub shape : KeepsShape old new
  pub falls : (j : ℕ) → j < k → Falls new (state_in order j)
  pub links : (ps : List (List ℕ)) → IsTrie ps old → (j : ℕ) → j < k → IsLink ps new (state_in order j)
  pub marked : (ps : List (List ℕ)) → IsTrie ps old → (x : ℕ) → x < length old → IsMarked ps new x

pub linking_start : (old : List Node) (order : List Place) → IsLinking old old order 0
linking_start old order = record {
  shape = shape-refl old;
  falls = λ j h. absurd (omega arith);
  links = λ ps t j h. absurd (omega arith);
  marked = λ ps t x l. inl (t.patterns x l);
}

-- each state of less bytes comes before
pub stands_before : (old : List Node) (order : List Place) (k x : ℕ) → IsByDepth old order → k < length order → x < length old → length (text_of old x) < length (text_of old (state_in order k)) → (j : ℕ) × ((j < k) × (state_in order j ≡ x))
stands_before old order k x o l xl short =
    let c = o.all x xl in
    let p : Place = record { depth = length (text_of old x); state = x } in
    let is : get_or order c.0 no_place ≡ p = get_or_default order c.0 no_place p c.1 ∙ c.2 in
    let here = o.places k no_place l in
    elim (cases_lt c.0 k) [
      | inl before ↦ (c.0, (before, ap (λ y. y.state) is))
      | inr after ↦ absurd (omega (arith, o.rises k c.0 no_place after c.1, ap (λ y. y.depth) is, here.1))
    ]

pub state_within : (old : List Node) (order : List Place) (k : ℕ) → IsByDepth old order → k < length order → state_in order k < length old
state_within old order k o l = (o.places k no_place l).0

pub linking_falls : (old new : List Node) (order : List Place) (k : ℕ) → IsTree old → IsByDepth old order → k < length order → IsLinking old new order k → FallsBelow new (length (text_of new (state_in order k)))
linking_falls old new order k t o l h x xl short =
    let n : length new ≡ length old = h.shape.len in
    let xo : x < length old = omega arith in
    let ex : length (text_of new x) ≡ length (text_of old x) = ap length (shape_text old new h.shape t x xo) in
    let es : length (text_of new (state_in order k)) ≡ length (text_of old (state_in order k)) = ap length (shape_text old new h.shape t (state_in order k) (state_within old order k o l)) in
    let j = stands_before old order k x o l xo (omega arith) in
    subst (λ y. Falls new y) j.1.1 (h.falls j.0 j.1.0)

pub linking_below : (ps : List (List ℕ)) (old new : List Node) (order : List Place) (k : ℕ) → IsTrie ps old → IsByDepth old order → k < length order → IsLinking old new order k → IsLinkedBelow ps new (length (text_of new (state_in order k)))
linking_below ps old new order k t o l h x xl short =
    let n : length new ≡ length old = h.shape.len in
    let xo : x < length old = omega arith in
    let ex : length (text_of new x) ≡ length (text_of old x) = ap length (shape_text old new h.shape t.tree x xo) in
    let es : length (text_of new (state_in order k)) ≡ length (text_of old (state_in order k)) = ap length (shape_text old new h.shape t.tree (state_in order k) (state_within old order k o l)) in
    let j = stands_before old order k x o l xo (omega arith) in
    subst (λ y. IsLink ps new y) j.1.1 (h.links ps t j.0 j.1.0)

-- another state's link stays
falls_kept : (new next : List Node) (x : ℕ) → IsTree new → x < length new → KeepsShape new next → node_at next x ≡ node_at new x → Falls new x → Falls next x
falls_kept new next x t l k e f up =
    let g = f up in
    let fail : (node_at next x).fail ≡ (node_at new x).fail = ap (λ y. y.fail) e in
    let a : length (text_of next (node_at next x).fail) ≡ length (text_of new (node_at new x).fail) = ap (λ z. length (text_of next z)) fail ∙ ap length (shape_text new next k t _ g.0) in
    let b : length (text_of next x) ≡ length (text_of new x) = ap length (shape_text new next k t x l) in
    (omega (arith, k.len, g.0), omega (arith, g.1))

link_kept : (ps : List (List ℕ)) (new next : List Node) (x : ℕ) → IsTree new → x < length new → KeepsShape new next → node_at next x ≡ node_at new x → IsLink ps new x → IsLink ps next x
link_kept ps new next x t l k e h =
    let fail : (node_at next x).fail ≡ (node_at new x).fail = ap (λ y. y.fail) e in
    record {
      within = omega (arith, k.len, h.within);
      fail = λ up. ap (text_of next) fail ∙ shape_text new next k t _ h.within ∙ h.fail up ∙ ap (λ w. longest_front ps (drop 1 w)) (sym (shape_text new next k t x l));
      matching = ap (λ y. y.matching) e ∙ h.matching ∙ ap (some_ends ps) (sym (shape_text new next k t x l));
    }

marked_kept : (ps : List (List ℕ)) (new next : List Node) (x : ℕ) → IsTree new → x < length new → KeepsShape new next → node_at next x ≡ node_at new x → IsMarked ps new x → IsMarked ps next x
marked_kept ps new next x t l k e a =
    let text : text_of new x ≡ text_of next x = sym (shape_text new next k t x l) in
    elim a [
      | inl p ↦ inl (ap (λ y. y.matching) e ∙ p ∙ ap (is_pattern ps) text)
      | inr p ↦ inr (ap (λ y. y.matching) e ∙ p ∙ ap (some_ends ps) text)
    ]

pub linking_more : (old new next : List Node) (order : List Place) (k s : ℕ) → s ≡ state_in order k → IsTree old → IsByDepth old order → k < length order → IsLinking old new order k → KeepsShape new next → ((x : ℕ) → x ≢ s → node_at next x ≡ node_at new x) → Falls next s → ((ps : List (List ℕ)) → HasFronts ps new → IsLinkedBelow ps new (length (text_of new s)) → IsMarked ps new s → IsLink ps next s) → IsLinking old next order (k + 1)
linking_more old new next order k s at t o l h shape others falls link =
    let u : IsTree new = shape_tree old new h.shape t in
    let sl : s < length new = omega (arith, h.shape.len, state_within old order k o l) in
    let here : (ps : List (List ℕ)) → IsTrie ps old → IsLink ps next s = λ ps tr. link ps (shape_fronts ps old new h.shape t tr.has)
    (subst (λ z. IsLinkedBelow ps new (length (text_of new z))) (sym at) (linking_below ps old new order k tr o l h))
    (h.marked ps tr s (omega (arith, h.shape.len))) in
    record {
      shape = shape-trans old new next h.shape shape;
      falls = λ j i. elim (cases_eq (state_in order j) s) [
        | inl same ↦ subst (λ z. Falls next z) (sym same) falls
        | inr other ↦ elim (last_or_before k j i) [
          | inl e ↦ absurd (other (ap (state_in order) e ∙ sym at))
          | inr before ↦ falls_kept new next (state_in order j) u (omega (arith, h.shape.len, state_within old order j o (omega arith))) shape (others _ other) (h.falls j before)
        ]
      ];
      links = λ ps tr j i. elim (cases_eq (state_in order j) s) [
        | inl same ↦ subst (λ z. IsLink ps next z) (sym same) (here ps tr)
        | inr other ↦ elim (last_or_before k j i) [
          | inl e ↦ absurd (other (ap (state_in order) e ∙ sym at))
          | inr before ↦ link_kept ps new next (state_in order j) u (omega (arith, h.shape.len, state_within old order j o (omega arith))) shape (others _ other) (h.links ps tr j before)
        ]
      ];
      marked = λ ps tr x xl. elim (cases_eq x s) [
        | inl same ↦ subst (λ z. IsMarked ps next z) (sym same) (inr (here ps tr).matching)
        | inr other ↦ marked_kept ps new next x u (omega (arith, h.shape.len)) shape (others x other) (h.marked ps tr x xl)
      ];
    }

pub linking_end : (old new : List Node) (order : List Place) (k : ℕ) → IsByDepth old order → length order ≤ k → IsLinking old new order k → (ps : List (List ℕ)) → IsTrie ps old → IsLinked ps new
linking_end old new order k o all h ps t = record {
  tree = shape_tree old new h.shape t.tree;
  has = shape_fronts ps old new h.shape t.tree t.has;
  links = λ x l. (
      let c = o.all x (omega (arith, h.shape.len)) in
      let e : state_in order c.0 ≡ x = ap (λ y. y.state) (get_or_default order c.0 no_place _ c.1 ∙ c.2) in
      subst (λ z. IsLink ps new z) e (h.links ps t c.0 (omega (arith, c.1))));
}

pub shape_order : (old new : List Node) (order : List Place) → KeepsShape old new → IsTree old → IsByDepth old order → IsByDepth new order
shape_order old new order k t o = record {
  places = λ j d l. (
      let p = o.places j d l in
      (omega (arith, k.len, p.0), p.1 ∙ ap length (sym (shape_text old new k t (get_or order j d).state p.0))));
  all = λ x l. (
      let xl : x < length old = omega (arith, k.len) in
      subst (λ w. Contains order (record { depth = length w; state = x })) (sym (shape_text old new k t x xl)) (o.all x xl));
  rises = o.rises;
}
