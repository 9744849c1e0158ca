-- The nodes after one is linked and one is added.
use Rattle.std.proofs.Common.{◌≡◌, ℕ, ◌+◌, ◌<◌, List, [], ◌∷◌, ◌++◌, length, map, get_or, set, Option, Some, None, unwrap_or, Result, Ok, Err, OnOk, OnErr, true, false, refl, sym, ap, ◌∙◌, subst, length-append, slice_index, inl, inr}
use Rattle.std.proofs.lemmas.List.{map-set, set-get_or, get_or-map, get_or-set_same, get_or-set_other, get_or_append_left, get_or_push, map_push, length-map, length-set}
use Rattle.std.proofs.lemmas.Bool.{cases_order}
use Rattle.std.specs.Cmp.{nat_cmp_is}
use Rattle.std.specs.declared.cmp.Ordering.TheVariants.{Less, Greater}
use Rattle.std.specs.Result.{is_err}
use Rattle.std.specs.Ordering.{nat_cmp, is_eq}
use Rattle.std.specs.BTreeMap.{is_at, Updates}
use Rattle.prefix_match.specs.declared.trie.tree.Node.{Node}
use Rattle.prefix_match.specs.TrieTree.{Begins, GoesOn, IsTree, AreTree, FitsBelow, path_at, child_at, child_in, paths, values, SameNodes, AddsNode}
use Rattle.prefix_match.proofs.TrieWays.{Grown, grown}
use Rattle.prefix_match.proofs.TrieNodes.{child_read}

pub at_ok : {A B P : Type 0} (r : Result A B) → OnOk r P → is_err r ≡ false → P
at_ok (Ok x) p e = p
at_ok (Err x) p e = absurd (cc)

pub at_err : {A B P : Type 0} (r : Result A B) → OnErr r P → is_err r ≡ true → P
at_err (Ok x) p e = absurd (cc)
at_err (Err x) p e = p

pub other_byte : (k q : ℕ) → (q ≡ k → ⊥) → is_at (nat_cmp k) q ≡ false
other_byte k q ne =
    elim (cases_order k q) [
      | inl e ↦ absurd (ne (sym e))
      | inr (inl h) ↦ ap is_eq (sym (nat_cmp_is k q Less h))
      | inr (inr h) ↦ ap is_eq (sym (nat_cmp_is k q Greater h))
    ]

-- one node in another's place, with the same value of f
pub same_map : {B : Type 0} (f : Node → B) (nodes : List Node) (n : ℕ) (x y : Node) → n < length nodes → x ≡ get_or nodes n x → f y ≡ f x → map f (set nodes n y) ≡ map f nodes
same_map f nodes n x y l ex ey =
    let at : get_or (map f nodes) n (f x) ≡ f x = get_or-map f nodes n x (f x) l ∙ ap f (sym ex) in
    map-set f nodes n y ∙ ap (λ z. set (map f nodes) n z) (ey ∙ sym at) ∙ set-get_or (map f nodes) n (f x)

-- a node whose children changed
pub record Linked (x y : Node) : Type 0 where
  pub path : y.path.items ≡ x.path.items
  pub value : y.value ≡ x.value

pub linked_paths : (nodes : List Node) (n : ℕ) (x y : Node) → n < length nodes → x ≡ get_or nodes n x → Linked x y → paths (set nodes n y) ≡ paths nodes
linked_paths nodes n x y l ex k = same_map (λ (z : Node). z.path.items) nodes n x y l ex k.path

pub linked_values : (nodes : List Node) (n : ℕ) (x y : Node) → n < length nodes → x ≡ get_or nodes n x → Linked x y → values (set nodes n y) ≡ values nodes
linked_values nodes n x y l ex k = same_map (λ (z : Node). z.value) nodes n x y l ex k.value

-- nodes with the paths and the children that they had
pub same_tree : (nodes : List Node) (n : ℕ) (x y : Node) → n < length nodes → x ≡ get_or nodes n x → y.path.items ≡ x.path.items → y.children.entries ≡ x.children.entries → AreTree nodes → AreTree (set nodes n y)
same_tree nodes n x y l ex ep ec t =
    let F : ℕ → List (List ℕ) → List (List (ℕ × ℕ)) → Type 0 = λ len ps es. IsTree len (λ i. get_or ps i []) (λ i b. child_in (get_or es i []) b) in
    let e1 : length nodes ≡ length (set nodes n y) = sym (length-set nodes n y) in
    let e2 : paths nodes ≡ paths (set nodes n y) = sym (same_map (λ (z : Node). z.path.items) nodes n x y l ex ep) in
    let e3 : map (λ (z : Node). z.children.entries) nodes ≡ map (λ (z : Node). z.children.entries) (set nodes n y) = sym (same_map (λ (z : Node). z.children.entries) nodes n x y l ex ec) in
    subst (λ len. F len (paths (set nodes n y)) (map (λ (z : Node). z.children.entries) (set nodes n y))) e1
    (subst (λ ps. F (length nodes) ps (map (λ (z : Node). z.children.entries) (set nodes n y))) e2
    (subst (λ es. F (length nodes) (paths nodes) es) e3 t))

pub same_nodes : (nodes : List Node) (n : ℕ) (x y : Node) → n < length nodes → x ≡ get_or nodes n x → Linked x y → SameNodes nodes (set nodes n y)
same_nodes nodes n x y l ex k = record { same_paths = linked_paths nodes n x y l ex k; same_values = linked_values nodes n x y l ex k }

module _ (nodes : List Node) (parent : ℕ) (x y new : Node) (l : parent < length nodes) (ex : x ≡ get_or nodes parent x) (k : Linked x y) where
  pub added_node : new.value ≡ None → AddsNode nodes (set nodes parent y ++ new ∷ []) new.path.items (length nodes)
  added_node none = record {
    last = refl;
    more_paths = map_push (λ (z : Node). z.path.items) (set nodes parent y) new ∙ ap (λ ps. ps ++ new.path.items ∷ []) (linked_paths nodes parent x y l ex k);
    more_values = map_push (λ (z : Node). z.value) (set nodes parent y) new ∙ ap (λ vs. vs ++ new.value ∷ []) (linked_values nodes parent x y l ex k) ∙ ap (λ v. values nodes ++ v ∷ []) none;
  }

  pub more_old_path : (n : ℕ) → n < length nodes → path_at (set nodes parent y ++ new ∷ []) n ≡ path_at nodes n
  more_old_path n ln =
      ap (λ ps. get_or ps n []) (map_push (λ (z : Node). z.path.items) (set nodes parent y) new ∙ ap (λ ps. ps ++ new.path.items ∷ []) (linked_paths nodes parent x y l ex k))
      ∙ get_or_append_left (paths nodes) (new.path.items ∷ []) [] n (rw length-map ln)

  pub more_new_path : path_at (set nodes parent y ++ new ∷ []) (length nodes) ≡ new.path.items
  more_new_path =
      ap (λ ps. get_or ps (length nodes) []) (map_push (λ (z : Node). z.path.items) (set nodes parent y) new ∙ ap (λ ps. ps ++ new.path.items ∷ []) (linked_paths nodes parent x y l ex k))
      ∙ get_or_push (paths nodes) new.path.items [] (length nodes) (length-map nodes (λ (z : Node). z.path.items))

  kids : map (λ (z : Node). z.children.entries) (set nodes parent y ++ new ∷ []) ≡ set (map (λ (z : Node). z.children.entries) nodes) parent y.children.entries ++ new.children.entries ∷ []
  kids = map_push (λ (z : Node). z.children.entries) (set nodes parent y) new ∙ ap (λ es. es ++ new.children.entries ∷ []) (map-set (λ (z : Node). z.children.entries) nodes parent y)

  pub more_new_child : (b : ℕ) → child_at (set nodes parent y ++ new ∷ []) (length nodes) b ≡ child_in new.children.entries b
  more_new_child b =
      ap (λ es. child_in (get_or es (length nodes) []) b) kids
      ∙ ap (λ es. child_in es b) (get_or_push (set (map (λ (z : Node). z.children.entries) nodes) parent y.children.entries) new.children.entries [] (length nodes)
      (length-set (map (λ (z : Node). z.children.entries) nodes) parent y.children.entries ∙ length-map nodes (λ (z : Node). z.children.entries)))

  more_old_child : (n b : ℕ) → n < length nodes → child_at (set nodes parent y ++ new ∷ []) n b ≡ child_in (get_or (set (map (λ (z : Node). z.children.entries) nodes) parent y.children.entries) n []) b
  more_old_child n b ln =
      ap (λ es. child_in (get_or es n []) b) kids
      ∙ ap (λ es. child_in es b) (get_or_append_left (set (map (λ (z : Node). z.children.entries) nodes) parent y.children.entries) (new.children.entries ∷ []) [] n
      (rw (length-set, length-map) ln))

  more_parent_child : (b : ℕ) → child_at (set nodes parent y ++ new ∷ []) parent b ≡ child_in y.children.entries b
  more_parent_child b =
      more_old_child parent b l
      ∙ ap (λ es. child_in es b) (get_or-set_same (map (λ (z : Node). z.children.entries) nodes) parent y.children.entries [] (rw length-map l))

  pub more_other_child : (n b : ℕ) → n < length nodes → (n ≡ parent → ⊥) → child_at (set nodes parent y ++ new ∷ []) n b ≡ child_at nodes n b
  more_other_child n b ln ne =
      more_old_child n b ln
      ∙ ap (λ es. child_in es b) (get_or-set_other (map (λ (z : Node). z.children.entries) nodes) parent n y.children.entries [] ne)

  module _ (byte : ℕ) (t : AreTree nodes) (fits : FitsBelow nodes parent new.path.items new.children.entries)
      (eb : byte ≡ slice_index new.path.items (length (path_at nodes parent))) (updates : Updates nat_cmp x.children y.children byte (Some (length nodes))) where
    grows : Grown (length nodes) (path_at nodes) (child_at nodes) (path_at (set nodes parent y ++ new ∷ [])) (child_at (set nodes parent y ++ new ∷ [])) parent byte
    grows = record {
      within = l;
      old_path = more_old_path;
      parents = subst (λ (q : List ℕ). GoesOn (path_at nodes parent) q byte) (sym more_new_path) (record { begins = fits.begins; longer = fits.longer; next_byte = sym eb });
      new_child = more_parent_child byte ∙ updates.1;
      other_bytes = λ b ne. more_parent_child b ∙ updates.2 b (other_byte byte b ne) ∙ child_read nodes parent b x l ex;
      other_nodes = more_other_child;
      below = λ b c e. fits.below b c (sym (more_new_child b) ∙ e);
      onward = λ b c e. subst (λ (q : List ℕ). GoesOn q (path_at nodes c) b) (sym more_new_path) (fits.onward b c (sym (more_new_child b) ∙ e));
      new_path = λ m lm e. fits.apart m lm (sym more_new_path ∙ e);
      reaches = λ m b lm on.
          subst (λ (q : List ℕ). (length q < length (path_at nodes (unwrap_or (child_at (set nodes parent y ++ new ∷ []) (length nodes) b) 0)))
          × Begins (path_at nodes (unwrap_or (child_at (set nodes parent y ++ new ∷ []) (length nodes) b) 0)) (path_at nodes m)) (sym more_new_path)
          (subst (λ (o : Option ℕ). (length new.path.items < length (path_at nodes (unwrap_or o 0))) × Begins (path_at nodes (unwrap_or o 0)) (path_at nodes m)) (sym (more_new_child b))
          (fits.reaches m b lm (subst (λ (q : List ℕ). GoesOn q (path_at nodes m) b) more_new_path on)));
      taken = λ m lm on. subst (λ (q : List ℕ). Begins q (path_at nodes m)) (sym more_new_path) (fits.taken m lm (subst (λ (z : ℕ). GoesOn (path_at nodes parent) (path_at nodes m) z) eb on));
    }

    pub grown_tree : AreTree (set nodes parent y ++ new ∷ [])
    grown_tree =
        let len : length nodes + 1 ≡ length (set nodes parent y ++ new ∷ []) = simp (length-append, length-set) refl in
        subst (λ n. IsTree n (path_at (set nodes parent y ++ new ∷ [])) (child_at (set nodes parent y ++ new ∷ []))) len
        (grown (length nodes) (path_at nodes) (child_at nodes) (path_at (set nodes parent y ++ new ∷ [])) (child_at (set nodes parent y ++ new ∷ [])) parent byte t grows)
