-- The ways through a tree, and one more node in it.
use Rattle.std.proofs.Common.{◌≡◌, ℕ, ◌+◌, ◌<◌, List, length, Option, Some, None, unwrap_or, refl, sym, ap, ◌∙◌, subst, arith, inl, inr, ◌⊎◌}
use Rattle.std.proofs.lemmas.Bool.{cases_lt, cases_eq, cases_order}
use Rattle.prefix_match.specs.TrieTree.{Begins, GoesOn, IsTree}
use Rattle.prefix_match.proofs.TrieFronts.{begins_trans, begins_fits, goes_on, begins_one, begins_self}

-- if a path goes on past a node, the node has a child on the way
pub way_none : (count : ℕ) (path : ℕ → List ℕ) (child : ℕ → ℕ → Option ℕ) → IsTree count path child → (n m byte : ℕ) → n < count → m < count →
    GoesOn (path n) (path m) byte → child n byte ≡ None → ⊥
way_none count path child t n m byte ln lm g e =
    let r = (t.reaches n m byte ln lm g).0 in
    let at_root : length (path (unwrap_or (child n byte) 0)) ≡ 0 = ap (λ o. length (path (unwrap_or o 0))) e ∙ ap length t.root in
    omega arith

pub way_some : (count : ℕ) (path : ℕ → List ℕ) (child : ℕ → ℕ → Option ℕ) → IsTree count path child → (n m byte c : ℕ) → n < count → m < count →
    GoesOn (path n) (path m) byte → child n byte ≡ Some c → Begins (path c) (path m)
way_some count path child t n m byte c ln lm g e =
    let P : Option ℕ → Type 0 = λ o. Begins (path (unwrap_or o 0)) (path m) in
    subst P e (t.reaches n m byte ln lm g).1

-- what leads from a node towards another, by the child for a byte
abbrev pub Leads : (ℕ → List ℕ) → ℕ → ℕ → Option ℕ → Type 0
Leads path n m o = (length (path n) < length (path (unwrap_or o 0))) × Begins (path (unwrap_or o 0)) (path m)

-- the tree with one more node, at count, as the parent's child for the byte
pub record Grown (count : ℕ) (path : ℕ → List ℕ) (child : ℕ → ℕ → Option ℕ) (path' : ℕ → List ℕ) (child' : ℕ → ℕ → Option ℕ) (parent byte : ℕ) : Type 0 where
  pub within : parent < count
  pub old_path : (n : ℕ) → n < count → path' n ≡ path n
  pub parents : GoesOn (path parent) (path' count) byte
  pub new_child : child' parent byte ≡ Some count
  pub other_bytes : (b : ℕ) → (b ≡ byte → ⊥) → child' parent b ≡ child parent b
  pub other_nodes : (n b : ℕ) → n < count → (n ≡ parent → ⊥) → child' n b ≡ child n b
  pub below : (b c : ℕ) → child' count b ≡ Some c → c < count
  pub onward : (b c : ℕ) → child' count b ≡ Some c → GoesOn (path' count) (path c) b
  pub new_path : (m : ℕ) → m < count → path' count ≡ path m → ⊥
  pub reaches : (m b : ℕ) → m < count → GoesOn (path' count) (path m) b →
      (length (path' count) < length (path (unwrap_or (child' count b) 0))) × Begins (path (unwrap_or (child' count b) 0)) (path m)
  pub taken : (m : ℕ) → m < count → GoesOn (path parent) (path m) byte → Begins (path' count) (path m)

last_or_below : (n count : ℕ) → n < count + 1 → (n < count) ⊎ (n ≡ count)
last_or_below n count l = elim (cases_lt n count) [ inl h ↦ inl h | inr h ↦ inr (omega arith) ]

goes_on_as : (p q p' q' : List ℕ) (b : ℕ) → p' ≡ p → q' ≡ q → GoesOn p q b → GoesOn p' q' b
goes_on_as p q p' q' b ep eq g = subst (λ (x : List ℕ). GoesOn x q' b) (sym ep) (subst (λ (x : List ℕ). GoesOn p x b) (sym eq) g)

same_some : (x y : ℕ) → Some x ≡ Some y → x ≡ y
same_some x y e = cc

module _ (count : ℕ) (path : ℕ → List ℕ) (child : ℕ → ℕ → Option ℕ) (path' : ℕ → List ℕ) (child' : ℕ → ℕ → Option ℕ) (parent byte : ℕ)
    (t : IsTree count path child) (g : Grown count path child path' child' parent byte) where
  -- a child that is there, or the root, is below count
  target_below : (o : Option ℕ) → ((c : ℕ) → o ≡ Some c → c < count) → unwrap_or o 0 < count
  target_below None h = let within = g.within in omega arith
  target_below (Some c) h = h c refl

  -- what led on before leads on
  leads_as : (n m : ℕ) (o : Option ℕ) → n < count → m < count → unwrap_or o 0 < count → Leads path n m o → Leads path' n m o
  leads_as n m o ln lm lo l =
      let en = g.old_path n ln in
      let em = g.old_path m lm in
      let eo = g.old_path (unwrap_or o 0) lo in
      (rw (en, eo) l.0, rw (em, eo) l.1)

  leads_by : (n m : ℕ) (o p : Option ℕ) → p ≡ o → Leads path' n m o → Leads path' n m p
  leads_by n m o p e l = subst (λ (x : Option ℕ). Leads path' n m x) (sym e) l

  old_leads : (n m b : ℕ) → n < count → m < count → GoesOn (path n) (path m) b → Leads path' n m (child n b)
  old_leads n m b ln lm on = leads_as n m (child n b) ln lm (target_below (child n b) (λ c e. t.below n b c ln e)) (t.reaches n m b ln lm on)

  -- the parent's children, by whether the byte is the new one's
  parent_leads : (m b : ℕ) → m < count → GoesOn (path parent) (path m) b → Leads path' parent m (child' parent b)
  parent_leads m b lm on =
      elim (cases_eq b byte) [
        | inr ne ↦ leads_by parent m (child parent b) (child' parent b) (g.other_bytes b ne) (old_leads parent m b g.within lm on)
        | inl e ↦
            let same : child' parent b ≡ Some count = ap (child' parent) e ∙ g.new_child in
            let begins : Begins (path' count) (path m) = g.taken m lm (subst (λ (x : ℕ). GoesOn (path parent) (path m) x) e on) in
            let longer = g.parents.longer in
            leads_by parent m (Some count) (child' parent b) same
            ((rw (g.old_path parent g.within) longer), (rw (g.old_path m lm) begins))
      ]

  -- on the way to the new node
  new_from_parent : (b : ℕ) → GoesOn (path parent) (path' count) b → Leads path' parent count (child' parent b)
  new_from_parent b on =
      let e : b ≡ byte = sym on.next_byte ∙ g.parents.next_byte in
      let same : child' parent b ≡ Some count = ap (child' parent) e ∙ g.new_child in
      let longer = g.parents.longer in
      leads_by parent count (Some count) (child' parent b) same ((rw (g.old_path parent g.within) longer), begins_self (path' count))

  new_from_other : (n b : ℕ) → n < count → (n ≡ parent → ⊥) → GoesOn (path n) (path' count) b → Leads path' n count (child n b)
  new_from_other n b ln ne on =
      elim (cases_order (length (path n)) (length (path parent))) [
        | inl e ↦ absurd (ne (t.apart n parent ln g.within (begins_one (path n) (path parent) (path' count) on.begins g.parents.begins e)))
        | inr (inl h) ↦
            let up : GoesOn (path n) (path parent) b = subst (λ (x : ℕ). GoesOn (path n) (path parent) x) on.next_byte (goes_on (path n) (path parent) (path' count) on.begins g.parents.begins h) in
            let l = t.reaches n parent b ln g.within up in
            let lo = target_below (child n b) (λ c e. t.below n b c ln e) in (
              (rw (g.old_path n ln, g.old_path (unwrap_or (child n b) 0) lo) l.0),
              (rw (g.old_path (unwrap_or (child n b) 0) lo) (begins_trans (path (unwrap_or (child n b) 0)) (path parent) (path' count) l.1 g.parents.begins)),
            )
        | inr (inr h) ↦
            let down : GoesOn (path parent) (path n) byte = subst (λ (x : ℕ). GoesOn (path parent) (path n) x) g.parents.next_byte (goes_on (path parent) (path n) (path' count) g.parents.begins on.begins h) in
            let fits = begins_fits (path' count) (path n) (g.taken n ln down) in
            let longer = on.longer in
            absurd (omega arith)
      ]

  -- from the new node
  from_new : (m b : ℕ) → m < count → GoesOn (path' count) (path m) b → Leads path' count m (child' count b)
  from_new m b lm on =
      let l = g.reaches m b lm on in
      let lo = target_below (child' count b) (λ c e. g.below b c e) in
      let eo = g.old_path (unwrap_or (child' count b) 0) lo in
      ((rw eo l.0), (rw (eo, g.old_path m lm) l.1))

  -- each node leads on to each
  leads_old_old : (n m b : ℕ) → n < count → m < count → GoesOn (path' n) (path' m) b → Leads path' n m (child' n b)
  leads_old_old n m b ln lm on' =
      let on : GoesOn (path n) (path m) b = goes_on_as (path' n) (path' m) (path n) (path m) b (sym (g.old_path n ln)) (sym (g.old_path m lm)) on' in
      elim (cases_eq n parent) [
        | inl e ↦ subst (λ (x : ℕ). Leads path' x m (child' x b)) (sym e) (parent_leads m b lm (subst (λ (x : ℕ). GoesOn (path x) (path m) b) e on))
        | inr ne ↦ leads_by n m (child n b) (child' n b) (g.other_nodes n b ln ne) (old_leads n m b ln lm on)
      ]

  leads_old_new : (n b : ℕ) → n < count → GoesOn (path' n) (path' count) b → Leads path' n count (child' n b)
  leads_old_new n b ln on' =
      let on : GoesOn (path n) (path' count) b = goes_on_as (path' n) (path' count) (path n) (path' count) b (sym (g.old_path n ln)) refl on' in
      elim (cases_eq n parent) [
        | inl e ↦ subst (λ (x : ℕ). Leads path' x count (child' x b)) (sym e) (new_from_parent b (subst (λ (x : ℕ). GoesOn (path x) (path' count) b) e on))
        | inr ne ↦ leads_by n count (child n b) (child' n b) (g.other_nodes n b ln ne) (new_from_other n b ln ne on)
      ]

  leads_new : (m b : ℕ) → m < count + 1 → GoesOn (path' count) (path' m) b → Leads path' count m (child' count b)
  leads_new m b lm on =
      elim (last_or_below m count lm) [
        | inl h ↦ from_new m b h (goes_on_as (path' count) (path' m) (path' count) (path m) b refl (sym (g.old_path m h)) on)
        | inr e ↦
            let longer = on.longer in
            let same : length (path' m) ≡ length (path' count) = ap (λ x. length (path' x)) e in
            absurd (omega arith)
      ]

  leads_any : (n m b : ℕ) → n < count + 1 → m < count + 1 → GoesOn (path' n) (path' m) b → Leads path' n m (child' n b)
  leads_any n m b ln lm on =
      elim (last_or_below n count ln) [
        | inr e ↦ subst (λ (x : ℕ). Leads path' x m (child' x b)) (sym e) (leads_new m b lm (subst (λ (x : ℕ). GoesOn (path' x) (path' m) b) e on))
        | inl h ↦ elim (last_or_below m count lm) [
          | inl k ↦ leads_old_old n m b h k on
          | inr e ↦ subst (λ (x : ℕ). Leads path' n x (child' n b)) (sym e) (leads_old_new n b h (subst (λ (x : ℕ). GoesOn (path' n) (path' x) b) e on))
        ]
      ]

  -- a child of an old node
  old_onward : (n b c : ℕ) → n < count → child n b ≡ Some c → (c < count + 1) × GoesOn (path' n) (path' c) b
  old_onward n b c ln e =
      let lc = t.below n b c ln e in
      ((omega arith), goes_on_as (path n) (path c) (path' n) (path' c) b (g.old_path n ln) (g.old_path c lc) (t.onward n b c ln e))

  parent_onward : (b c : ℕ) → child' parent b ≡ Some c → (c < count + 1) × GoesOn (path' parent) (path' c) b
  parent_onward b c e =
      elim (cases_eq b byte) [
        | inr ne ↦ old_onward parent b c g.within (sym (g.other_bytes b ne) ∙ e)
        | inl eb ↦
            let ec : count ≡ c = same_some count c (sym g.new_child ∙ ap (child' parent) (sym eb) ∙ e) in
            let on : GoesOn (path' parent) (path' count) byte = goes_on_as (path parent) (path' count) (path' parent) (path' count) byte (g.old_path parent g.within) refl g.parents in
            ((omega arith), subst (λ (x : ℕ). GoesOn (path' parent) (path' x) b) ec (subst (λ (x : ℕ). GoesOn (path' parent) (path' count) x) (sym eb) on))
      ]

  any_onward : (n b c : ℕ) → n < count + 1 → child' n b ≡ Some c → (c < count + 1) × GoesOn (path' n) (path' c) b
  any_onward n b c ln e =
      elim (last_or_below n count ln) [
        | inr en ↦
            let e' : child' count b ≡ Some c = ap (λ x. child' x b) (sym en) ∙ e in
            let lc = g.below b c e' in
            let on : GoesOn (path' count) (path' c) b = goes_on_as (path' count) (path c) (path' count) (path' c) b refl (g.old_path c lc) (g.onward b c e') in
            ((omega arith), subst (λ (x : ℕ). GoesOn (path' x) (path' c) b) (sym en) on)
        | inl h ↦ elim (cases_eq n parent) [
          | inl ep ↦ subst (λ (x : ℕ). (c < count + 1) × GoesOn (path' x) (path' c) b) (sym ep) (parent_onward b c (ap (λ x. child' x b) (sym ep) ∙ e))
          | inr ne ↦ old_onward n b c h (sym (g.other_nodes n b h ne) ∙ e)
        ]
      ]

  any_apart : (n m : ℕ) → n < count + 1 → m < count + 1 → path' n ≡ path' m → n ≡ m
  any_apart n m ln lm e =
      elim (last_or_below n count ln) [
        | inl h ↦ elim (last_or_below m count lm) [
          | inl k ↦ t.apart n m h k (sym (g.old_path n h) ∙ e ∙ g.old_path m k)
          | inr em ↦ absurd (g.new_path n h (ap path' (sym em) ∙ sym e ∙ g.old_path n h))
        ]
        | inr en ↦ elim (last_or_below m count lm) [
          | inl k ↦ absurd (g.new_path m k (ap path' (sym en) ∙ e ∙ g.old_path m k))
          | inr em ↦ en ∙ sym em
        ]
      ]

  pub grown : IsTree (count + 1) path' child'
  grown = record {
    root = (let l : 0 < count = (let within = g.within in omega arith) in g.old_path 0 l ∙ t.root);
    apart = any_apart;
    below = λ n b c ln e. (any_onward n b c ln e).0;
    onward = λ n b c ln e. (any_onward n b c ln e).1;
    reaches = leads_any;
  }
