-- The texts of the states, and what a new child changes.
use Rattle.std.proofs.Common.{◌≡◌, ℕ, zero, suc, ◌+◌, ◌<◌, ◌≤◌, ◌≢◌, true, false, ◌⊎◌, inl, inr, List, [], ◌∷◌, ◌++◌, length, get_or, set, refl, sym, ◌∙◌, ap, arith, length-append}
use Rattle.std.proofs.lemmas.Bool.{cases_lt, cases_eq, cases_order, false_from_ne_true}
use Rattle.std.proofs.lemmas.List.{same_from_push, get_or_append_left, get_or_push, get_or_read, get_or-set_same, get_or-set_other, length-set, length_push}
use Rattle.prefix_match.specs.declared.substring.trie.Node.{Node}
use Rattle.prefix_match.specs.Substring.{is_front}
use Rattle.prefix_match.specs.SubstringStates.{no_node, node_at, bytes_within, text_of, IsTree, IsChild, HasNoChild, with_child, HasFronts}

same_fuel : (n : ℕ) (parent byte : ℕ → ℕ) → ((c : ℕ) → 0 < c → c < n → parent c < c) → (a b s : ℕ) → s < n → s ≤ a → s ≤ b → bytes_within parent byte a s ≡ bytes_within parent byte b s
unfolding bytes_within
same_fuel n parent byte h zero zero s l i j = refl
same_fuel n parent byte h zero (suc b) zero l i j = refl
same_fuel n parent byte h zero (suc b) (suc s) l i j = absurd (omega arith)
same_fuel n parent byte h (suc a) zero zero l i j = refl
same_fuel n parent byte h (suc a) zero (suc s) l i j = absurd (omega arith)
same_fuel n parent byte h (suc a) (suc b) zero l i j = refl
same_fuel n parent byte h (suc a) (suc b) (suc s) l i j =
    let down : parent (suc s) < suc s = h (suc s) (omega arith) l in
    ap (λ w. w ++ byte (suc s) ∷ []) (same_fuel n parent byte h a b (parent (suc s)) (omega arith) (omega arith) (omega arith))

same_bytes_within : (n : ℕ) (parent byte parent' byte' : ℕ → ℕ) → ((c : ℕ) → 0 < c → c < n → parent c < c) → ((x : ℕ) → x < n → parent' x ≡ parent x) → ((x : ℕ) → x < n → byte' x ≡ byte x) → (a s : ℕ) → s < n → bytes_within parent' byte' a s ≡ bytes_within parent byte a s
unfolding bytes_within
same_bytes_within n parent byte parent' byte' h p q zero s l = refl
same_bytes_within n parent byte parent' byte' h p q (suc a) zero l = refl
same_bytes_within n parent byte parent' byte' h p q (suc a) (suc s) l =
    let down : parent (suc s) < suc s = h (suc s) (omega arith) l in
    rw (p (suc s) l, q (suc s) l) (ap (λ w. w ++ byte (suc s) ∷ []) (same_bytes_within n parent byte parent' byte' h p q a (parent (suc s)) (omega arith)))

length-bytes_within : (parent byte : ℕ → ℕ) (a s : ℕ) → length (bytes_within parent byte a s) ≤ a
unfolding bytes_within
length-bytes_within parent byte zero s = omega arith
length-bytes_within parent byte (suc a) zero = omega arith
length-bytes_within parent byte (suc a) (suc s) =
    omega (arith, length-append (bytes_within parent byte a (parent (suc s))) (byte (suc s) ∷ []), length-bytes_within parent byte a (parent (suc s)))

pub text_of-root : (nodes : List Node) → text_of nodes 0 ≡ []
unfolding text_of bytes_within
text_of-root nodes = refl

pub length-text_of : (nodes : List Node) (s : ℕ) → length (text_of nodes s) ≤ s
unfolding text_of
length-text_of nodes s = length-bytes_within (λ x. (node_at nodes x).parent) (λ x. (node_at nodes x).byte) s s

pub text_of-child : (nodes : List Node) (c : ℕ) → IsTree nodes → 0 < c → c < length nodes → text_of nodes c ≡ text_of nodes (node_at nodes c).parent ++ (node_at nodes c).byte ∷ []
unfolding text_of bytes_within
text_of-child nodes zero t l i = absurd (omega arith)
text_of-child nodes (suc c) t l i =
    let parent : ℕ → ℕ = λ x. (node_at nodes x).parent in
    let byte : ℕ → ℕ = λ x. (node_at nodes x).byte in
    let down : parent (suc c) < suc c = t.parents (suc c) l i in
    ap (λ w. w ++ byte (suc c) ∷ []) (same_fuel (length nodes) parent byte t.parents c (parent (suc c)) (parent (suc c)) (omega arith) (omega arith) (omega arith))

-- texts stay if the parents and the bytes do
pub same_texts : (old new : List Node) → IsTree old → ((x : ℕ) → x < length old → (node_at new x).parent ≡ (node_at old x).parent) → ((x : ℕ) → x < length old → (node_at new x).byte ≡ (node_at old x).byte) → (s : ℕ) → s < length old → text_of new s ≡ text_of old s
unfolding text_of
same_texts old new t p q s l =
    same_bytes_within (length old) (λ x. (node_at old x).parent) (λ x. (node_at old x).byte) (λ x. (node_at new x).parent) (λ x. (node_at new x).byte) t.parents p q s s l

nil_not_push : (w : List ℕ) (b : ℕ) → [] ≡ w ++ b ∷ [] → ⊥
nil_not_push w b e = absurd (omega (arith, ap length e, length-append w (b ∷ [])))

-- two states of one text are one
same_state_by : (m : ℕ) (nodes : List Node) → IsTree nodes → (x y : ℕ) → x < m → x < length nodes → y < length nodes → text_of nodes x ≡ text_of nodes y → x ≡ y
same_state_by zero nodes t x y h i j e = absurd (omega arith)
same_state_by (suc m) nodes t x y h i j e =
    elim (cases_lt 0 x) [
      | inl up ↦ elim (cases_lt 0 y) [
        | inl vp ↦ (
            let px : ℕ = (node_at nodes x).parent in
            let py : ℕ = (node_at nodes y).parent in
            let both = same_from_push (text_of nodes px) (text_of nodes py) (node_at nodes x).byte (node_at nodes y).byte
            (sym (text_of-child nodes x t up i) ∙ e ∙ text_of-child nodes y t vp j) in
            let dx : px < x = t.parents x up i in
            let dy : py < y = t.parents y vp j in
            let p : px ≡ py = same_state_by m nodes t px py (omega arith) (omega arith) (omega arith) both.0 in
            elim (cases_order x y) [
              | inl same ↦ same
              | inr o ↦ elim o [
                | inl less ↦ absurd (t.distinct x y up less j p both.1)
                | inr more ↦ absurd (t.distinct y x vp more i (sym p) (sym both.1))
              ]
            ])
        | inr vz ↦ (
            let z : y ≡ 0 = omega arith in
            absurd (nil_not_push _ _ (sym (text_of-root nodes) ∙ ap (text_of nodes) (sym z) ∙ sym e ∙ text_of-child nodes x t up i)))
      ]
      | inr uz ↦ elim (cases_lt 0 y) [
        | inl vp ↦ (
            let z : x ≡ 0 = omega arith in
            absurd (nil_not_push _ _ (sym (text_of-root nodes) ∙ ap (text_of nodes) (sym z) ∙ e ∙ text_of-child nodes y t vp j)))
        | inr vz ↦ omega arith
      ]
    ]

pub same_state : (nodes : List Node) → IsTree nodes → (x y : ℕ) → x < length nodes → y < length nodes → text_of nodes x ≡ text_of nodes y → x ≡ y
same_state nodes t x y i j e = same_state_by (suc x) nodes t x y (omega arith) i j e

pub child_text : (nodes : List Node) (s b c : ℕ) → IsTree nodes → IsChild nodes s b c → text_of nodes c ≡ text_of nodes s ++ b ∷ []
child_text nodes s b c t h =
    text_of-child nodes c t h.above h.within ∙ ap (λ p. text_of nodes p ++ (node_at nodes c).byte ∷ []) h.parent ∙ ap (λ y. text_of nodes s ++ y ∷ []) h.byte_is

pub no_child_text : (nodes : List Node) (s b x : ℕ) → IsTree nodes → s < length nodes → HasNoChild nodes s b → x < length nodes → text_of nodes x ≡ text_of nodes s ++ b ∷ [] → ⊥
no_child_text nodes s b x t l h i e =
    elim (cases_lt 0 x) [
      | inl up ↦ (
          let both = same_from_push (text_of nodes (node_at nodes x).parent) (text_of nodes s) (node_at nodes x).byte b (sym (text_of-child nodes x t up i) ∙ e) in
          let down : (node_at nodes x).parent < x = t.parents x up i in
          h x up i (same_state nodes t (node_at nodes x).parent s (omega arith) l both.0) both.1)
      | inr z ↦ (
          let is : x ≡ 0 = omega arith in
          nil_not_push _ _ (sym (text_of-root nodes) ∙ ap (text_of nodes) (sym is) ∙ e))
    ]

pub child_front : (ps : List (List ℕ)) (nodes : List Node) (s b c : ℕ) → IsTree nodes → HasFronts ps nodes → IsChild nodes s b c → is_front ps (text_of nodes s ++ b ∷ []) ≡ true
child_front ps nodes s b c t f h = ap (is_front ps) (sym (child_text nodes s b c t h)) ∙ f.only c h.above h.within

pub no_child_front : (ps : List (List ℕ)) (nodes : List Node) (s b : ℕ) → IsTree nodes → HasFronts ps nodes → s < length nodes → HasNoChild nodes s b → is_front ps (text_of nodes s ++ b ∷ []) ≡ false
no_child_front ps nodes s b t f l h =
    false_from_ne_true _ (λ e. let x = f.fronts _ e in no_child_text nodes s b x.0 t l h x.1.0 x.1.1)

-- what a new child changes
pub record AddsChild (old new : List Node) (s b : ℕ) : Type 0 where
  pub len : length new ≡ length old + 1
  pub parent : (x : ℕ) → x < length old → (node_at new x).parent ≡ (node_at old x).parent
  pub byte_is : (x : ℕ) → x < length old → (node_at new x).byte ≡ (node_at old x).byte
  pub next : (x : ℕ) → x < length old → (node_at new x).next_sibling ≡ (node_at old x).next_sibling
  pub matching : (x : ℕ) → x < length old → (node_at new x).matching ≡ (node_at old x).matching
  pub first : (x : ℕ) → x < length old → x ≢ s → (node_at new x).first_child ≡ (node_at old x).first_child
  pub first_here : (node_at new s).first_child ≡ length old
  pub new_parent : (node_at new (length old)).parent ≡ s
  pub new_byte : (node_at new (length old)).byte ≡ b
  pub new_next : (node_at new (length old)).next_sibling ≡ (node_at old s).first_child
  pub new_first : (node_at new (length old)).first_child ≡ 0
  pub new_matching : (node_at new (length old)).matching ≡ false

pub with_child_adds : (nodes : List Node) (s b : ℕ) → s < length nodes → AddsChild nodes (with_child nodes s b) s b
unfolding with_child
with_child_adds nodes s b l =
    let n : ℕ = length nodes in
    let added : Node = record { byte = b; matching = false; parent = s; first_child = 0; next_sibling = (node_at nodes s).first_child; fail = 0 } in
    let xs : List Node = nodes ++ added ∷ [] in
    let here : Node = record (get_or xs s no_node) { first_child = n } in
    let new : List Node = set xs s here in
    let long : length xs ≡ n + 1 = length_push nodes added in
    let inside : s < length xs = omega arith in
    let same : node_at new s ≡ here = get_or-set_same xs s here no_node inside in
    let other : (x : ℕ) → x ≢ s → node_at new x ≡ node_at xs x = λ x ne. get_or-set_other xs s x here no_node ne in
    let old : (x : ℕ) → x < n → node_at xs x ≡ node_at nodes x = λ x i. get_or_append_left nodes (added ∷ []) no_node x i in
    let ne : n ≢ s = λ e. absurd (omega arith) in
    let at : node_at new n ≡ added = other n ne ∙ get_or_push nodes added no_node n refl in
    let by : (f : Node → ℕ) → (f here ≡ f (node_at xs s)) → (x : ℕ) → x < n → f (node_at new x) ≡ f (node_at nodes x) =
    λ f e x i. elim (cases_eq x s) [
      | inl q ↦ ap (λ z. f (node_at new z)) q ∙ ap f same ∙ e ∙ ap f (old s l) ∙ ap (λ z. f (node_at nodes z)) (sym q)
      | inr d ↦ ap f (other x d ∙ old x i)
    ] in
    record {
      len = length-set xs s here ∙ long;
      parent = by (λ y. y.parent) refl;
      byte_is = by (λ y. y.byte) refl;
      next = by (λ y. y.next_sibling) refl;
      matching = λ x i. elim (cases_eq x s) [
        | inl q ↦ ap (λ z. (node_at new z).matching) q ∙ ap (λ y. y.matching) same ∙ ap (λ y. y.matching) (old s l) ∙ ap (λ z. (node_at nodes z).matching) (sym q)
        | inr d ↦ ap (λ y. y.matching) (other x d ∙ old x i)
      ];
      first = λ x i d. ap (λ y. y.first_child) (other x d ∙ old x i);
      first_here = ap (λ y. y.first_child) same;
      new_parent = ap (λ y. y.parent) at;
      new_byte = ap (λ y. y.byte) at;
      new_next = ap (λ y. y.next_sibling) at;
      new_first = ap (λ y. y.first_child) at;
      new_matching = ap (λ y. y.matching) at;
    }

-- one more place: what holds of those before it, and of it
pub last_or_before : (n c : ℕ) → c < n + 1 → (c ≡ n) ⊎ (c < n)
last_or_before n c h = elim (cases_lt c n) [ inl a ↦ inr a | inr b ↦ inl (omega arith) ]

pub tree_with_child : (old new : List Node) (s b : ℕ) → IsTree old → s < length old → HasNoChild old s b → AddsChild old new s b → IsTree new
tree_with_child old new s b t l none a =
    let n : ℕ = length old in
    let m : length new ≡ n + 1 = a.len in
    record {
      root = omega (arith, t.root);
      root_parent = a.parent 0 t.root ∙ t.root_parent;
      parents = λ c up i. elim (last_or_before n c (omega arith)) [
        | inl q ↦ (let e : (node_at new c).parent ≡ s = ap (λ z. (node_at new z).parent) q ∙ a.new_parent in omega arith)
        | inr j ↦ (let d : (node_at old c).parent < c = t.parents c up j in omega (arith, a.parent c j))
      ];
      distinct = λ c d up less i p q. elim (last_or_before n d (omega arith)) [
        | inl z ↦ (let j : c < n = omega arith in
            none c up j
            (sym (a.parent c j) ∙ p ∙ ap (λ x. (node_at new x).parent) z ∙ a.new_parent)
            (sym (a.byte_is c j) ∙ q ∙ ap (λ x. (node_at new x).byte) z ∙ a.new_byte))
        | inr k ↦ (let j : c < n = omega arith in
            t.distinct c d up less k (sym (a.parent c j) ∙ p ∙ a.parent d k) (sym (a.byte_is c j) ∙ q ∙ a.byte_is d k))
      ];
      first_in = λ x i. elim (last_or_before n x (omega arith)) [
        | inl q ↦ (let e : (node_at new x).first_child ≡ 0 = ap (λ z. (node_at new z).first_child) q ∙ a.new_first in omega arith)
        | inr j ↦ elim (cases_eq x s) [
          | inl q ↦ (let e : (node_at new x).first_child ≡ n = ap (λ z. (node_at new z).first_child) q ∙ a.first_here in omega arith)
          | inr d ↦ (let e = t.first_in x j in omega (arith, a.first x j d, e))
        ]
      ];
      first_parent = λ x i up. elim (last_or_before n x (omega arith)) [
        | inl q ↦ (let e : (node_at new x).first_child ≡ 0 = ap (λ z. (node_at new z).first_child) q ∙ a.new_first in absurd (omega arith))
        | inr j ↦ elim (cases_eq x s) [
          | inl q ↦ (let e : (node_at new x).first_child ≡ n = ap (λ z. (node_at new z).first_child) q ∙ a.first_here in
              ap (λ z. (node_at new z).parent) e ∙ a.new_parent ∙ sym q)
          | inr d ↦ (let e : (node_at new x).first_child ≡ (node_at old x).first_child = a.first x j d in
              let k : (node_at old x).first_child < n = t.first_in x j in
              ap (λ z. (node_at new z).parent) e ∙ a.parent _ k ∙ t.first_parent x j (omega arith))
        ]
      ];
      first_last = λ x c i up k p. elim (last_or_before n c (omega arith)) [
        | inl q ↦ (let e : x ≡ s = sym p ∙ ap (λ z. (node_at new z).parent) q ∙ a.new_parent in
            let f : (node_at new x).first_child ≡ n = ap (λ z. (node_at new z).first_child) e ∙ a.first_here in omega arith)
        | inr j ↦ elim (cases_eq x s) [
          | inl q ↦ (let f : (node_at new x).first_child ≡ n = ap (λ z. (node_at new z).first_child) q ∙ a.first_here in omega arith)
          | inr d ↦ (
              let r : (node_at old c).parent ≡ x = sym (a.parent c j) ∙ p in
              let down : (node_at old c).parent < c = t.parents c up j in
              let xin : x < n = omega arith in
              omega (arith, a.first x xin d, t.first_last x c xin up j r))
        ]
      ];
      next_less = λ c up i. elim (last_or_before n c (omega arith)) [
        | inl q ↦ (let e : (node_at new c).next_sibling ≡ (node_at old s).first_child = ap (λ z. (node_at new z).next_sibling) q ∙ a.new_next in omega (arith, t.first_in s l))
        | inr j ↦ omega (arith, a.next c j, t.next_less c up j)
      ];
      next_parent = λ c up i z. elim (last_or_before n c (omega arith)) [
        | inl q ↦ (
            let e : (node_at new c).next_sibling ≡ (node_at old s).first_child = ap (λ y. (node_at new y).next_sibling) q ∙ a.new_next in
            let k : (node_at old s).first_child < n = t.first_in s l in
            ap (λ y. (node_at new y).parent) e ∙ a.parent _ k ∙ t.first_parent s l (omega arith) ∙ sym (ap (λ y. (node_at new y).parent) q ∙ a.new_parent))
        | inr j ↦ (
            let e : (node_at new c).next_sibling ≡ (node_at old c).next_sibling = a.next c j in
            let less : (node_at old c).next_sibling < c = t.next_less c up j in
            ap (λ y. (node_at new y).parent) e ∙ a.parent _ (omega arith) ∙ t.next_parent c up j (omega arith) ∙ sym (a.parent c j))
      ];
      next_last = λ c d up i vp less p. elim (last_or_before n c (omega arith)) [
        | inl q ↦ (
            let e : (node_at new c).next_sibling ≡ (node_at old s).first_child = ap (λ y. (node_at new y).next_sibling) q ∙ a.new_next in
            let k : d < n = omega arith in
            let r : (node_at old d).parent ≡ s = sym (a.parent d k) ∙ p ∙ ap (λ y. (node_at new y).parent) q ∙ a.new_parent in
            omega (arith, t.first_last s d l vp k r))
        | inr j ↦ (
            let k : d < n = omega arith in
            omega (arith, a.next c j, t.next_last c d up j vp less (sym (a.parent d k) ∙ p ∙ a.parent c j)))
      ];
    }

pub kept_text : (old new : List Node) (s b x : ℕ) → IsTree old → AddsChild old new s b → x < length old → text_of new x ≡ text_of old x
kept_text old new s b x t a l = same_texts old new t a.parent a.byte_is x l

pub new_text : (old new : List Node) (s b : ℕ) → IsTree old → IsTree new → s < length old → AddsChild old new s b → text_of new (length old) ≡ text_of old s ++ b ∷ []
new_text old new s b t u l a =
    let n : ℕ = length old in
    text_of-child new n u (omega arith) (omega (arith, a.len)) ∙ ap (λ p. text_of new p ++ (node_at new n).byte ∷ []) a.new_parent ∙ ap (λ y. text_of new s ++ y ∷ []) a.new_byte ∙ ap (λ w. w ++ b ∷ []) (kept_text old new s b s t a l)

-- a push and a write are `with_child`
pub with_child_is : (old xs : List Node) (s b n f : ℕ) (m : Node) → s < length old → f ≡ (node_at old s).first_child → n ≡ length old → xs ≡ old ++ record { byte = b; matching = false; parent = s; first_child = 0; next_sibling = f; fail = 0 } ∷ [] → m ≡ get_or xs s m → set xs s (record m { first_child = n }) ≡ with_child old s b
unfolding with_child
with_child_is old xs s b n f m l e k p q =
    let added : ℕ → Node = λ z. record { byte = b; matching = false; parent = s; first_child = 0; next_sibling = z; fail = 0 } in
    let xs-is : xs ≡ old ++ added (node_at old s).first_child ∷ [] = p ∙ ap (λ z. old ++ added z ∷ []) e in
    let m-is : m ≡ get_or xs s no_node = get_or_read xs s m (omega (arith, ap length p, length_push old (added f))) q no_node in
    ap (λ z. set xs s (record z { first_child = n })) m-is
    ∙ ap (λ z. set xs s (record (get_or xs s no_node) { first_child = z })) k
    ∙ ap (λ z. set z s (record (get_or z s no_node) { first_child = length old })) xs-is
