-- The states while a pattern is inserted.
use Rattle.std.proofs.Common.{◌≡◌, ℕ, ◌+◌, ◌<◌, ◌≤◌, ◌≢◌, Bool, true, false, ◌||◌, ◌⊎◌, inl, inr, List, [], ◌∷◌, ◌++◌, length, take, get_or, set, refl, sym, ◌∙◌, ap, arith}
use Rattle.std.specs.Str.{bytes_eq}
use Rattle.std.specs.List.{list_any}
use Rattle.std.proofs.lemmas.Bool.{cases_lt, cases_eq, false≢true, or_left, or_right, or_cases, false_from_ne_true}
use Rattle.std.proofs.lemmas.List.{length-take-le, take_all, take_more, get_or-set_same, get_or-set_other, get_or_push, get_or_read, length_push}
use Rattle.std.proofs.lemmas.List.Folds.{list_any-append}
use Rattle.prefix_match.specs.declared.substring.trie.Node.{Node}
use Rattle.prefix_match.specs.Substring.{is_front, is_pattern}
use Rattle.prefix_match.specs.SubstringStates.{no_node, node_at, text_of, IsTree, IsChild, HasNoChild, IsTrie, with_child, KeepsShape}
use Rattle.prefix_match.proofs.SubstringFronts.{same_bytes, bytes_same, bytes_differ, is_front_at, is_front-pattern}
use Rattle.prefix_match.proofs.SubstringStates.{text_of-root, same_state, child_text, no_child_text, AddsChild, kept_text, new_text, last_or_before, with_child_adds, tree_with_child}
use Rattle.prefix_match.proofs.SubstringShapes.{shape_tree, shape_text, shape-set}

-- the states have the prefixes of the patterns, and of q those of at most i bytes
pub record IsPartTrie (ps : List (List ℕ)) (q : List ℕ) (i : ℕ) (nodes : List Node) : Type 0 where
  pub fronts : (w : List ℕ) → is_front ps w ≡ true → (x : ℕ) × ((x < length nodes) × (text_of nodes x ≡ w))
  pub part : (j : ℕ) → j ≤ i → (x : ℕ) × ((x < length nodes) × (text_of nodes x ≡ take j q))
  pub only : (x : ℕ) → 0 < x → x < length nodes → is_front (ps ++ q ∷ []) (text_of nodes x) ≡ true
  pub patterns : (x : ℕ) → x < length nodes → (node_at nodes x).matching ≡ is_pattern ps (text_of nodes x)

pub is_front-push : (ps : List (List ℕ)) (q w : List ℕ) → is_front (ps ++ q ∷ []) w ≡ true → (is_front ps w ≡ true) ⊎ (take (length w) q ≡ w)
unfolding is_front
is_front-push ps q w h =
    let test : List ℕ → Bool = λ p. bytes_eq (take (length w) p) w in
    elim (or_cases (list_any test ps) (list_any test (q ∷ [])) (sym (list_any-append test ps (q ∷ [])) ∙ h)) [
      | inl a ↦ inl a
      | inr b ↦ elim (or_cases (test q) false b) [ inl c ↦ inr (same_bytes _ _ c) | inr c ↦ absurd (false≢true c) ]
    ]

pub is_front_push_old : (ps : List (List ℕ)) (q w : List ℕ) → is_front ps w ≡ true → is_front (ps ++ q ∷ []) w ≡ true
unfolding is_front
is_front_push_old ps q w h =
    let test : List ℕ → Bool = λ p. bytes_eq (take (length w) p) w in
    list_any-append test ps (q ∷ []) ∙ or_left _ _ h

pub is_front_push_new : (ps : List (List ℕ)) (q : List ℕ) (i : ℕ) → i ≤ length q → is_front (ps ++ q ∷ []) (take i q) ≡ true
is_front_push_new ps q i h =
    is_front_at (ps ++ q ∷ []) (length ps) (take i q) (omega (arith, length_push ps q))
    (ap (take (length (take i q))) (get_or_push ps q [] (length ps) refl) ∙ ap (λ n. take n q) (length-take-le i q h))

or_false : (b : Bool) → (b || false) ≡ b
or_false true = refl
or_false false = refl

pub is_pattern-push : (ps : List (List ℕ)) (q w : List ℕ) → is_pattern (ps ++ q ∷ []) w ≡ (is_pattern ps w || bytes_eq q w)
is_pattern-push ps q w =
    list_any-append (λ p. bytes_eq p w) ps (q ∷ []) ∙ ap (λ b. is_pattern ps w || b) (or_false (bytes_eq q w))

pub part_start : (ps : List (List ℕ)) (q : List ℕ) (nodes : List Node) → IsTrie ps nodes → IsPartTrie ps q 0 nodes
part_start ps q nodes t = record {
  fronts = t.has.fronts;
  part = λ j h. (0, (t.tree.root, text_of-root nodes ∙ (let z : j ≡ 0 = omega arith in ap (λ k. take k q) (sym z))));
  only = λ x up i. is_front_push_old ps q _ (t.has.only x up i);
  patterns = t.patterns;
}

pub part_more : (ps : List (List ℕ)) (q : List ℕ) (i : ℕ) (nodes : List Node) (x : ℕ) → x < length nodes → text_of nodes x ≡ take (i + 1) q → IsPartTrie ps q i nodes → IsPartTrie ps q (i + 1) nodes
part_more ps q i nodes x l e t = record {
  fronts = t.fronts;
  part = λ j h. elim (cases_eq j (i + 1)) [
    | inl same ↦ (x, (l, e ∙ ap (λ k. take k q) (sym same)))
    | inr other ↦ t.part j (omega arith)
  ];
  only = t.only;
  patterns = t.patterns;
}

pub part_added : (ps : List (List ℕ)) (q : List ℕ) (i : ℕ) (old new : List Node) (s b : ℕ) → i < length q → s < length old → IsTree old → IsTree new → HasNoChild old s b → AddsChild old new s b → text_of old s ++ b ∷ [] ≡ take (i + 1) q → IsPartTrie ps q i old → IsPartTrie ps q (i + 1) new
part_added ps q i old new s b more l t u none a e h =
    let n : ℕ = length old in
    let long : length new ≡ n + 1 = a.len in
    let kept : (x : ℕ) → x < n → text_of new x ≡ text_of old x = λ x j. kept_text old new s b x t a j in
    let here : text_of new n ≡ take (i + 1) q = new_text old new s b t u l a ∙ e in
    let none_yet : is_pattern ps (take (i + 1) q) ≡ false =
    false_from_ne_true _ (λ p. let f = h.fronts _ (is_front-pattern ps (take (i + 1) q) p) in no_child_text old s b f.0 t l none f.1.0 (f.1.1 ∙ sym e)) in
    record {
      fronts = λ w p. (let f = h.fronts w p in (f.0, (omega (arith, f.1.0), kept f.0 f.1.0 ∙ f.1.1)));
      part = λ j k. elim (cases_eq j (i + 1)) [
        | inl same ↦ (n, (omega arith, here ∙ ap (λ z. take z q) (sym same)))
        | inr other ↦ (let f = h.part j (omega arith) in (f.0, (omega (arith, f.1.0), kept f.0 f.1.0 ∙ f.1.1)))
      ];
      only = λ x up j. elim (last_or_before n x (omega arith)) [
        | inl same ↦ ap (λ z. is_front (ps ++ q ∷ []) (text_of new z)) same ∙ ap (is_front (ps ++ q ∷ [])) here ∙ is_front_push_new ps q (i + 1) (omega arith)
        | inr before ↦ ap (is_front (ps ++ q ∷ [])) (kept x before) ∙ h.only x up before
      ];
      patterns = λ x j. elim (last_or_before n x (omega arith)) [
        | inl same ↦ ap (λ z. (node_at new z).matching) same ∙ a.new_matching ∙ sym (ap (λ z. is_pattern ps (text_of new z)) same ∙ ap (is_pattern ps) here ∙ none_yet)
        | inr before ↦ a.matching x before ∙ h.patterns x before ∙ ap (is_pattern ps) (sym (kept x before))
      ];
    }

-- at the pattern's end its state is marked
pub trie_marked : (ps : List (List ℕ)) (q : List ℕ) (i : ℕ) (old new : List Node) (s : ℕ) → length q ≤ i → s < length old → IsTree old → text_of old s ≡ take i q → KeepsShape old new → ((x : ℕ) → x ≢ s → (node_at new x).matching ≡ (node_at old x).matching) → (node_at new s).matching ≡ true → IsPartTrie ps q i old → IsTrie (ps ++ q ∷ []) new
trie_marked ps q i old new s all l t e k others here h =
    let whole : text_of old s ≡ q = e ∙ take_all i q all in
    let kept : (x : ℕ) → x < length old → text_of new x ≡ text_of old x = shape_text old new k t in
    let n : length new ≡ length old = k.len in
    record {
      tree = shape_tree old new k t;
      has = record {
        fronts = λ w p. elim (is_front-push ps q w p) [
          | inl a ↦ (let f = h.fronts w a in (f.0, (omega (arith, f.1.0), kept f.0 f.1.0 ∙ f.1.1)))
          | inr a ↦ elim (cases_lt i (length w)) [
            | inl long ↦ (let m : take (length w) q ≡ q = take_all (length w) q (omega arith) in
                (s, (omega arith, kept s l ∙ whole ∙ sym m ∙ a)))
            | inr short ↦ (let f = h.part (length w) short in (f.0, (omega (arith, f.1.0), kept f.0 f.1.0 ∙ f.1.1 ∙ a)))
          ]
        ];
        only = λ x up j. ap (is_front (ps ++ q ∷ [])) (kept x (omega arith)) ∙ h.only x up (omega arith);
      };
      patterns = λ x j. (
          let j' : x < length old = omega arith in
          let goal : is_pattern (ps ++ q ∷ []) (text_of new x) ≡ (is_pattern ps (text_of old x) || bytes_eq q (text_of old x)) =
          ap (is_pattern (ps ++ q ∷ [])) (kept x j') ∙ is_pattern-push ps q (text_of old x) in
          elim (cases_eq x s) [
            | inl same ↦ ap (λ z. (node_at new z).matching) same ∙ here ∙ sym (goal ∙ or_right _ _ (bytes_same q (text_of old x) (sym (ap (text_of old) same ∙ whole))))
            | inr other ↦ (
                let no : bytes_eq q (text_of old x) ≡ false = bytes_differ q (text_of old x) (λ p. other (same_state old t x s j' l (sym p ∙ sym whole))) in
                others x other ∙ h.patterns x j' ∙ sym (goal ∙ ap (λ b. is_pattern ps (text_of old x) || b) no ∙ or_false _))
          ]);
    }

-- one byte more of the pattern
pub take_byte : (q : List ℕ) (i y : ℕ) (w : List ℕ) → i < length q → w ≡ take i q → y ≡ get_or q i 0 → w ++ y ∷ [] ≡ take (i + 1) q
take_byte q i y w l e f = ap (λ u. u ++ y ∷ []) e ∙ ap (λ z. take i q ++ z ∷ []) f ∙ sym (take_more q i 0 l)

-- the loop over a pattern's bytes
pub record IsInserting (old nodes : List Node) (state i : ℕ) (q : List ℕ) : Type 0 where
  pub tree : IsTree nodes
  pub within : state < length nodes
  pub room : length nodes ≤ length old + i
  pub text : text_of nodes state ≡ take i q
  pub part : (ps : List (List ℕ)) → IsTrie ps old → IsPartTrie ps q i nodes

pub insert_start : (old : List Node) (q : List ℕ) → IsTree old → IsInserting old old 0 0 q
insert_start old q t = record {
  tree = t;
  within = t.root;
  room = omega arith;
  text = text_of-root old;
  part = λ ps h. part_start ps q old h;
}

pub insert_found : (old nodes : List Node) (state i b c : ℕ) (q : List ℕ) → i < length q → b ≡ get_or q i 0 → IsChild nodes state b c → IsInserting old nodes state i q → IsInserting old nodes c (i + 1) q
insert_found old nodes state i b c q l e f h =
    let text : text_of nodes c ≡ take (i + 1) q = child_text nodes state b c h.tree f ∙ take_byte q i b (text_of nodes state) l h.text e in
    record {
      tree = h.tree;
      within = f.within;
      room = omega (arith, h.room);
      text = text;
      part = λ ps t. part_more ps q i nodes c f.within text (h.part ps t);
    }

pub insert_added : (old nodes : List Node) (state i b : ℕ) (q : List ℕ) → i < length q → b ≡ get_or q i 0 → HasNoChild nodes state b → IsInserting old nodes state i q → IsInserting old (with_child nodes state b) (length nodes) (i + 1) q
insert_added old nodes state i b q l e none h =
    let new : List Node = with_child nodes state b in
    let a : AddsChild nodes new state b = with_child_adds nodes state b h.within in
    let t : IsTree new = tree_with_child nodes new state b h.tree h.within none a in
    let on : text_of nodes state ++ b ∷ [] ≡ take (i + 1) q = take_byte q i b (text_of nodes state) l h.text e in
    record {
      tree = t;
      within = omega (arith, a.len);
      room = omega (arith, a.len, h.room);
      text = new_text nodes new state b h.tree t h.within a ∙ on;
      part = λ ps old_trie. part_added ps q i nodes new state b l h.within h.tree t none a on (h.part ps old_trie);
    }

pub insert_end : (old nodes : List Node) (state i : ℕ) (q : List ℕ) (m : Node) → length q ≤ i → m ≡ get_or nodes state m → IsInserting old nodes state i q → IsTree (set nodes state (record m { matching = true })) × ((ps : List (List ℕ)) → IsTrie ps old → IsTrie (ps ++ q ∷ []) (set nodes state (record m { matching = true })))
insert_end old nodes state i q m all e h =
    let is : m ≡ node_at nodes state = get_or_read nodes state m h.within e no_node in
    let new : List Node = set nodes state (record m { matching = true }) in
    let k : KeepsShape nodes new = shape-set nodes state (record m { matching = true }) h.within (ap (λ y. y.parent) is) (ap (λ y. y.byte) is) (ap (λ y. y.first_child) is) (ap (λ y. y.next_sibling) is) in
    let here : node_at new state ≡ record m { matching = true } = get_or-set_same nodes state (record m { matching = true }) no_node h.within in (
      shape_tree nodes new k h.tree,
      λ ps t. trie_marked ps q i nodes new state all h.within h.tree h.text k
          (λ x d. ap (λ y. y.matching) (get_or-set_other nodes state x (record m { matching = true }) no_node d)) (ap (λ y. y.matching) here) (h.part ps t),
    )

-- a root alone has the prefixes of no pattern
pub root_trie : (nodes : List Node) (b : ℕ) → nodes ≡ record { byte = b; matching = false; parent = 0; first_child = 0; next_sibling = 0; fail = 0 } ∷ [] → IsTrie [] nodes
unfolding is_front
root_trie nodes b e =
    let root : Node = record { byte = b; matching = false; parent = 0; first_child = 0; next_sibling = 0; fail = 0 } in
    let one : length nodes ≡ 1 = ap length e in
    let here : (x : ℕ) → x < length nodes → node_at nodes x ≡ root = λ x l. (let z : x ≡ 0 = omega arith in ap (λ y. node_at nodes y) z ∙ ap (λ ns. node_at ns 0) e) in
    record {
      tree = record {
        root = omega arith;
        root_parent = ap (λ y. y.parent) (here 0 (omega arith));
        parents = λ c up l. absurd (omega arith);
        distinct = λ c d up less l p q. absurd (omega arith);
        first_in = λ s l. omega (arith, ap (λ y. y.first_child) (here s l));
        first_parent = λ s l up. absurd (omega (arith, ap (λ y. y.first_child) (here s l)));
        first_last = λ s c l up k p. absurd (omega arith);
        next_less = λ c up l. absurd (omega arith);
        next_parent = λ c up l z. absurd (omega arith);
        next_last = λ c d up l vp less p. absurd (omega arith);
      };
      has = record {
        fronts = λ w f. absurd (false≢true f);
        only = λ x up l. absurd (omega arith);
      };
      patterns = λ x l. ap (λ y. y.matching) (here x l);
    }
