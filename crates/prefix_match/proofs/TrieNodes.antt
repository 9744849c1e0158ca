-- What the tree's functions read of its nodes.
use Rattle.std.proofs.Common.{◌≡◌, ℕ, ◌+◌, ◌<◌, ◌≤◌, List, [], ◌∷◌, ◌++◌, length, length-append, refl, get_or, drop, Option, Some, None, Bool, true, false, sym, ap, ◌∙◌, subst, arith, inl, inr, nat_eq, length-drop, IfSome, IsSome}
use Rattle.std.proofs.lemmas.Bool.{cases_lt}
use Rattle.std.proofs.lemmas.List.{get_or-map}
use Rattle.std.specs.List.{starts_with}
use Rattle.std.specs.Option.{option_or}
use Rattle.prefix_match.specs.declared.trie.tree.Node.{Node}
use Rattle.prefix_match.specs.TrieTree.{Begins, GoesOn, AreTree, IsDeepest, IsNext, Best, path_at, child_at, child_in, value_at}
use Rattle.prefix_match.proofs.TrieFronts.{begins_more, begins_trans, begins_fits, goes_on, begins_rest, rest_begins, begins_one}
use Rattle.prefix_match.proofs.TrieWays.{way_none, way_some}

-- the node has no child for the text's next byte
pub deepest_at_none : (nodes : List Node) (text : List ℕ) (n : ℕ) (p : List ℕ) → AreTree nodes → n < length nodes → Begins (path_at nodes n) text → p ≡ path_at nodes n →
    None ≡ child_at nodes n (get_or text (length p) 0) → IsDeepest nodes text n
deepest_at_none nodes text n p t l b ep en =
    let e = subst (λ (x : List ℕ). None ≡ child_at nodes n (get_or text (length x) 0)) ep en in record {
      within = l;
      begins = b;
      deepest = λ m lm bm.
          elim (cases_lt (length (path_at nodes n)) (length (path_at nodes m))) [
            | inl h ↦ absurd (way_none (length nodes) (path_at nodes) (child_at nodes) t n m _ l lm (goes_on (path_at nodes n) (path_at nodes m) text b bm h) (sym e))
            | inr h ↦ h
          ];
    }

-- every longer path on the way lies past the child
past_child : (nodes : List Node) (text : List ℕ) (n c m : ℕ) → AreTree nodes → n < length nodes → Begins (path_at nodes n) text →
    Some c ≡ child_at nodes n (get_or text (length (path_at nodes n)) 0) → m < length nodes → Begins (path_at nodes m) text → length (path_at nodes n) < length (path_at nodes m) →
    Begins (path_at nodes c) (path_at nodes m)
past_child nodes text n c m t l b e lm bm h =
    way_some (length nodes) (path_at nodes) (child_at nodes) t n m _ c l lm (goes_on (path_at nodes n) (path_at nodes m) text b bm h) (sym e)

pub child_goes_on : (nodes : List Node) (n byte c : ℕ) → AreTree nodes → n < length nodes → Some c ≡ child_at nodes n byte → GoesOn (path_at nodes n) (path_at nodes c) byte
child_goes_on nodes n byte c t l e = t.onward n byte c l (sym e)

pub child_within : (nodes : List Node) (n byte c : ℕ) → AreTree nodes → n < length nodes → Some c ≡ child_at nodes n byte → c < length nodes
child_within nodes n byte c t l e = t.below n byte c l (sym e)

-- the way to the child and the text go on past the node by one byte
goes_past : (nodes : List Node) (text : List ℕ) (n c : ℕ) (p : List ℕ) → AreTree nodes → n < length nodes → Begins (path_at nodes n) text →
    p ≡ path_at nodes n → length p < length text → Some c ≡ child_at nodes n (get_or text (length p) 0) →
    (front : List ℕ) × (length front ≡ length p + 1) × Begins front (path_at nodes c) × Begins front text
goes_past nodes text n c p t l b ep room es =
    let e = subst (λ (x : List ℕ). Some c ≡ child_at nodes n (get_or text (length x) 0)) ep es in
    let on = child_goes_on nodes n _ c t l e in
    let byte = get_or text (length (path_at nodes n)) 0 in (
      path_at nodes n ++ byte ∷ [],
      length-append (path_at nodes n) (byte ∷ []) ∙ ap (λ (x : List ℕ). length x + 1) (sym ep),
      begins_more (path_at nodes n) (path_at nodes c) byte on.begins on.longer on.next_byte,
      begins_more (path_at nodes n) text byte b (subst (λ (x : List ℕ). length x < length text) ep room) refl,
    )

-- the rest of the child's path is no prefix of the rest of the text
pub deepest_at_other : (nodes : List Node) (text : List ℕ) (n c : ℕ) (p q : List ℕ) (past : ℕ) (r : Bool) → AreTree nodes → n < length nodes → Begins (path_at nodes n) text →
    p ≡ path_at nodes n → q ≡ path_at nodes c → Some c ≡ child_at nodes n (get_or text (length p) 0) → past ≡ length p + 1 → length p < length text →
    r ≡ starts_with nat_eq (drop past text) (drop past q) → r ≡ false → IsDeepest nodes text n
deepest_at_other nodes text n c p q past r t l b ep eq es ex room ers f =
    let e = subst (λ (x : List ℕ). Some c ≡ child_at nodes n (get_or text (length x) 0)) ep es in
    let (front, same, in_c, in_text) = goes_past nodes text n c p t l b ep room es in
    let rs = subst (λ k. r ≡ starts_with nat_eq (drop k text) (drop k (path_at nodes c))) (ex ∙ sym same) (subst (λ (x : List ℕ). r ≡ starts_with nat_eq (drop past text) (drop past x)) eq ers) in
    record {
      within = l;
      begins = b;
      deepest = λ m lm bm.
          elim (cases_lt (length (path_at nodes n)) (length (path_at nodes m))) [
            | inl h ↦
                let bc : Begins (path_at nodes c) text = begins_trans (path_at nodes c) (path_at nodes m) text (past_child nodes text n c m t l b e lm bm h) bm in
                let yes : r ≡ true = begins_rest front (path_at nodes c) text r in_c in_text bc rs in
                absurd (cc)
            | inr h ↦ h
          ];
    }

-- and if it is one
pub next_at_child : (nodes : List Node) (text : List ℕ) (n c : ℕ) (p q : List ℕ) (past : ℕ) (r : Bool) → AreTree nodes → n < length nodes → Begins (path_at nodes n) text →
    p ≡ path_at nodes n → q ≡ path_at nodes c → Some c ≡ child_at nodes n (get_or text (length p) 0) → past ≡ length p + 1 → length p < length text →
    r ≡ starts_with nat_eq (drop past text) (drop past q) → (r ≡ true → length (drop past q) ≤ length (drop past text)) → r ≡ true → IsNext nodes text n c
next_at_child nodes text n c p q past r t l b ep eq es ex room ers bound y =
    let e = subst (λ (x : List ℕ). Some c ≡ child_at nodes n (get_or text (length x) 0)) ep es in
    let (front, same, in_c, in_text) = goes_past nodes text n c p t l b ep room es in
    let rs = subst (λ k. r ≡ starts_with nat_eq (drop k text) (drop k (path_at nodes c))) (ex ∙ sym same) (subst (λ (x : List ℕ). r ≡ starts_with nat_eq (drop past text) (drop past x)) eq ers) in
    let short = bound y in
    let fits : length (path_at nodes c) ≤ length text = omega (arith, length-drop past q, length-drop past text, ap length eq) in
    let on = child_goes_on nodes n _ c t l e in
    record {
      within = child_within nodes n _ c t l e;
      begins = rest_begins front (path_at nodes c) text r in_c in_text fits rs y;
      further = on.longer;
      next = λ m lm bm h. begins_fits (path_at nodes c) (path_at nodes m) (past_child nodes text n c m t l b e lm bm h);
    }

-- the child of a node, if there is one
pub some_child_within : (nodes : List Node) (n byte : ℕ) (o : Option ℕ) → AreTree nodes → n < length nodes → o ≡ child_at nodes n byte → IfSome o (λ c. c < length nodes)
some_child_within nodes n byte None t l e = tt
some_child_within nodes n byte (Some c) t l e = child_within nodes n byte c t l e

pub some_child_goes_on : (nodes : List Node) (n byte : ℕ) (o : Option ℕ) → AreTree nodes → n < length nodes → o ≡ child_at nodes n byte →
    IfSome o (λ c. GoesOn (path_at nodes n) (path_at nodes c) byte)
some_child_goes_on nodes n byte None t l e = tt
some_child_goes_on nodes n byte (Some c) t l e = child_goes_on nodes n byte c t l e

-- the node at an index
pub path_read : (nodes : List Node) (n : ℕ) (x : Node) → n < length nodes → x ≡ get_or nodes n x → path_at nodes n ≡ x.path.items
path_read nodes n x l e = get_or-map (λ (y : Node). y.path.items) nodes n x [] l ∙ ap (λ (y : Node). y.path.items) (sym e)

pub child_read : (nodes : List Node) (n byte : ℕ) (x : Node) → n < length nodes → x ≡ get_or nodes n x → child_in x.children.entries byte ≡ child_at nodes n byte
child_read nodes n byte x l e =
    ap (λ (y : Node). child_in y.children.entries byte) e
    ∙ sym (ap (λ es. child_in es byte) (get_or-map (λ (y : Node). y.children.entries) nodes n x [] l))

pub value_read : (nodes : List Node) (n : ℕ) (x : Node) → n < length nodes → x ≡ get_or nodes n x → x.value ≡ value_at nodes n
value_read nodes n x l e = ap (λ (y : Node). y.value) e ∙ sym (get_or-map (λ (y : Node). y.value) nodes n x None l)

-- a value that is there is not none
some_none : (o : Option ℕ) → IsSome o → o ≡ None → ⊥
some_none None s e = cc
some_none (Some v) s e = cc

-- one node further
pub best_at_next : (nodes : List Node) (text : List ℕ) (n c : ℕ) (best o new : Option ℕ) → AreTree nodes → Best nodes text (length (path_at nodes n)) best → IsNext nodes text n c →
    o ≡ value_at nodes c → new ≡ option_or o best → Best nodes text (length (path_at nodes c)) new
best_at_next nodes text n c best (Some v) new t b x e en = subst (Best nodes text (length (path_at nodes c))) (sym en) (
  c,
  record {
    within = x.within;
    has_value = sym e;
    begins = x.begins;
    best = λ m lm some bm h. h;
  },
)
best_at_next nodes text n c None None new t b x e en = subst (Best nodes text (length (path_at nodes c))) (sym en) (λ m lm some bm.
    elim (cases_lt (length (path_at nodes c)) (length (path_at nodes m))) [
      | inl h ↦ h
      | inr h ↦
          let far = b m lm some bm in
          let past = x.next m lm bm far in
          let same : path_at nodes m ≡ path_at nodes c = begins_one (path_at nodes m) (path_at nodes c) text bm x.begins (omega arith) in
          absurd (some_none (value_at nodes m) some (ap (value_at nodes) (t.apart m c lm x.within same) ∙ sym e))
    ])
best_at_next nodes text n c (Some v) None new t (k, b) x e en = subst (Best nodes text (length (path_at nodes c))) (sym en) (
  k,
  record {
    within = b.within;
    has_value = b.has_value;
    begins = b.begins;
    best = λ m lm some bm h.
        elim (cases_lt (length (path_at nodes n)) (length (path_at nodes m))) [
          | inr g ↦ b.best m lm some bm g
          | inl g ↦
              let past = x.next m lm bm g in
              let same : path_at nodes m ≡ path_at nodes c = begins_one (path_at nodes m) (path_at nodes c) text bm x.begins (omega arith) in
              absurd (some_none (value_at nodes m) some (ap (value_at nodes) (t.apart m c lm x.within same) ∙ sym e))
        ];
  },
)
