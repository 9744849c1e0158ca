-- What is stored under a pattern, by the nodes.
use Rattle.std.proofs.Common.{◌≡◌, ℕ, zero, suc, ◌<◌, ◌≤◌, List, [], ◌∷◌, length, get_or, set, Option, Some, None, IsSome, IfSome, IfNone, true, false, cond, refl, sym, ap, ◌∙◌, subst, arith, inl, inr}
use Rattle.std.proofs.lemmas.Bool.{cases_Bool}
use Rattle.std.proofs.lemmas.List.{length-map, length-set, get_or-set_same}
use Rattle.std.proofs.lemmas.Slice.Eq.{bytes_eq-Decides}
use Rattle.std.specs.Str.{bytes_eq}
use Rattle.std.specs.List.{Contains}
use Rattle.prefix_match.specs.TriePatterns.{stored, HasNoFront, IsLongest}
use Rattle.prefix_match.specs.declared.trie.tree.Node.{Node}
use Rattle.prefix_match.specs.TrieTree.{AreTree, Begins, Best, Grows, paths, values, path_at, value_at, pairs_of}
use Rattle.prefix_match.proofs.TrieFronts.{begins_front, front_begins, begins_fits}
use Rattle.prefix_match.proofs.TriePairs.{same_lengths}

bytes_same : (p : List ℕ) → bytes_eq p p ≡ true
bytes_same p = (bytes_eq-Decides p p).1 refl

bytes_apart : (p q : List ℕ) → (p ≡ q → ⊥) → bytes_eq p q ≡ false
bytes_apart p q ne = elim (cases_Bool (bytes_eq p q)) [ inl e ↦ absurd (ne ((bytes_eq-Decides p q).0 e)) | inr e ↦ e ]

apart_zero : (i : ℕ) → suc i ≡ 0 → ⊥
apart_zero i e = omega arith

less_suc : (i j : ℕ) → suc i ≡ suc j → i ≡ j
less_suc i j e = omega arith

pub stored_none : (ps : List (List ℕ)) (vs : List (Option ℕ)) (q : List ℕ) → ((i : ℕ) → i < length ps → get_or ps i [] ≡ q → ⊥) → stored (pairs_of ps vs) q ≡ None
stored_none [] vs q never = refl
stored_none (p ∷ ps) [] q never = refl
stored_none (p ∷ ps) (None ∷ vs) q never = stored_none ps vs q (λ i l e. never (suc i) (omega arith) e)
stored_none (p ∷ ps) (Some v ∷ vs) q never =
    let other : bytes_eq q p ≡ false = bytes_apart q p (λ e. never 0 (omega arith) (sym e)) in
    rw other (stored_none ps vs q (λ i l e. never (suc i) (omega arith) e))

pub stored_some : (ps : List (List ℕ)) (vs : List (Option ℕ)) (q : List ℕ) (v : ℕ) → stored (pairs_of ps vs) q ≡ Some v → (n : ℕ) × (n < length ps) × (get_or ps n [] ≡ q) × (get_or vs n None ≡ Some v)
stored_some [] vs q v e = absurd (cc)
stored_some (p ∷ ps) [] q v e = absurd (cc)
stored_some (p ∷ ps) (None ∷ vs) q v e = let (n, l, a, b) = stored_some ps vs q v e in (suc n, (omega arith), a, b)
stored_some (p ∷ ps) (Some w ∷ vs) q v e =
    elim (cases_Bool (bytes_eq q p)) [
      | inl same ↦ (0, (omega arith), sym ((bytes_eq-Decides q p).0 same), (rw same at e))
      | inr other ↦ let (n, l, a, b) = stored_some ps vs q v (rw other at e) in (suc n, (omega arith), a, b)
    ]

pub stored_at : (ps : List (List ℕ)) (vs : List (Option ℕ)) (n : ℕ) → length ps ≡ length vs → ((i j : ℕ) → i < length ps → j < length ps → get_or ps i [] ≡ get_or ps j [] → i ≡ j) → n < length ps →
    stored (pairs_of ps vs) (get_or ps n []) ≡ get_or vs n None
stored_at [] vs n el d l = absurd (omega arith)
stored_at (p ∷ ps) [] n el d l = absurd (omega arith)
stored_at (p ∷ ps) (None ∷ vs) zero el d l = stored_none ps vs p (λ i k e. apart_zero i (d (suc i) 0 (omega arith) (omega arith) e))
stored_at (p ∷ ps) (Some v ∷ vs) zero el d l = rw (bytes_same p) refl
stored_at (p ∷ ps) (None ∷ vs) (suc n) el d l = stored_at ps vs n (omega arith) (λ i j li lj e. less_suc i j (d (suc i) (suc j) (omega arith) (omega arith) e)) (omega arith)
stored_at (p ∷ ps) (Some v ∷ vs) (suc n) el d l =
    let other : bytes_eq (get_or ps n []) p ≡ false = bytes_apart (get_or ps n []) p (λ e. apart_zero n (d (suc n) 0 (omega arith) (omega arith) e)) in
    rw other (stored_at ps vs n (omega arith) (λ i j li lj e. less_suc i j (d (suc i) (suc j) (omega arith) (omega arith) e)) (omega arith))

pub stored_other : (ps : List (List ℕ)) (vs : List (Option ℕ)) (n v : ℕ) (q : List ℕ) → (q ≡ get_or ps n [] → ⊥) → stored (pairs_of ps (set vs n (Some v))) q ≡ stored (pairs_of ps vs) q
stored_other [] vs n v q ne = refl
stored_other (p ∷ ps) [] n v q ne = refl
stored_other (p ∷ ps) (None ∷ vs) zero v q ne = rw (bytes_apart q p ne) refl
stored_other (p ∷ ps) (Some w ∷ vs) zero v q ne = rw (bytes_apart q p ne) refl
stored_other (p ∷ ps) (None ∷ vs) (suc n) v q ne = stored_other ps vs n v q ne
stored_other (p ∷ ps) (Some w ∷ vs) (suc n) v q ne = ap (cond (bytes_eq q p) (Some w)) (stored_other ps vs n v q ne)

-- the paths of a tree's nodes differ
paths_apart : (nodes : List Node) → AreTree nodes → (i j : ℕ) → i < length (paths nodes) → j < length (paths nodes) → path_at nodes i ≡ path_at nodes j → i ≡ j
paths_apart nodes t i j li lj e =
    t.apart i j (omega (arith, length-map nodes (λ (x : Node). x.path.items))) (omega (arith, length-map nodes (λ (x : Node). x.path.items))) e

-- what is stored under a node's path
pub stored_node : (nodes : List Node) (n : ℕ) → AreTree nodes → n < length nodes → stored (pairs_of (paths nodes) (values nodes)) (path_at nodes n) ≡ value_at nodes n
stored_node nodes n t l =
    stored_at (paths nodes) (values nodes) n (same_lengths nodes) (paths_apart nodes t) (omega (arith, length-map nodes (λ (x : Node). x.path.items)))

some_value : (o : Option ℕ) → IsSome o → (v : ℕ) × (o ≡ Some v)
some_value None s = absurd (cc)
some_value (Some v) s = (v, refl)

-- a node for each stored pattern
node_of : (nodes : List Node) (q : List ℕ) → IsSome (stored (pairs_of (paths nodes) (values nodes)) q) → (n : ℕ) × (n < length nodes) × (path_at nodes n ≡ q) × IsSome (value_at nodes n)
node_of nodes q s =
    let (v, e) = some_value (stored (pairs_of (paths nodes) (values nodes)) q) s in
    let (n, l, a, b) = stored_some (paths nodes) (values nodes) q v e in
    (n, (omega (arith, length-map nodes (λ (x : Node). x.path.items))), a, subst IsSome (sym b) refl)

pub longest_some : (nodes : List Node) (text : List ℕ) (o : Option ℕ) → AreTree nodes → Best nodes text (length text) o → IfSome o (IsLongest (pairs_of (paths nodes) (values nodes)) text)
longest_some nodes text None t b = tt
longest_some nodes text (Some v) t (k, b) = (
  path_at nodes k,
  record {
    has_value = stored_node nodes k t b.within ∙ b.has_value;
    front = begins_front (path_at nodes k) text b.begins;
    longest = λ q s f.
        let (n, l, e, i) = node_of nodes q s in
        let begins = subst (λ (p : List ℕ). Begins p text) (sym e) (front_begins q text f) in
        subst (λ (p : List ℕ). length p ≤ length (path_at nodes k)) e (b.best n l i begins (begins_fits (path_at nodes n) text begins));
  },
)

pub longest_none : (nodes : List Node) (text : List ℕ) (o : Option ℕ) → AreTree nodes → Best nodes text (length text) o → IfNone o (HasNoFront (pairs_of (paths nodes) (values nodes)) text)
longest_none nodes text (Some v) t b = tt
longest_none nodes text None t b = λ q s f.
    let (n, l, e, i) = node_of nodes q s in
    let begins = subst (λ (p : List ℕ). Begins p text) (sym e) (front_begins q text f) in
    let far = b n l i begins in
    let fits = begins_fits (path_at nodes n) text begins in
    omega arith

-- an insert of the pattern at its node
module _ (old mid new : List Node) (node value : ℕ) (pattern : List ℕ) (t : AreTree mid) (l : node < length mid) (e : path_at mid node ≡ pattern) (g : Grows old mid)
    (same_paths : paths new ≡ paths mid) (more_values : values new ≡ set (values mid) node (Some value)) where
  pub insert_old : value_at mid node ≡ stored (pairs_of (paths old) (values old)) pattern
  insert_old = sym (stored_node mid node t l) ∙ ap (stored (pairs_of (paths mid) (values mid))) e ∙ ap (λ ps. stored ps pattern) g.same_pairs

  pairs_new : pairs_of (paths new) (values new) ≡ pairs_of (paths mid) (set (values mid) node (Some value))
  pairs_new = ap (λ ps. pairs_of ps (values new)) same_paths ∙ ap (pairs_of (paths mid)) more_values

  pub insert_value : stored (pairs_of (paths new) (values new)) pattern ≡ Some value
  insert_value =
      ap (λ ps. stored ps pattern) pairs_new
      ∙ ap (stored (pairs_of (paths mid) (set (values mid) node (Some value)))) (sym e)
      ∙ stored_at (paths mid) (set (values mid) node (Some value)) node (same_lengths mid ∙ sym (length-set (values mid) node (Some value))) (paths_apart mid t) (omega (arith, length-map mid (λ (x : Node). x.path.items)))
      ∙ get_or-set_same (values mid) node (Some value) None (omega (arith, length-map mid (λ (x : Node). x.value)))

  pub insert_others : (q : List ℕ) → (q ≡ pattern → ⊥) → stored (pairs_of (paths new) (values new)) q ≡ stored (pairs_of (paths old) (values old)) q
  insert_others q ne =
      ap (λ ps. stored ps q) pairs_new
      ∙ stored_other (paths mid) (values mid) node value q (λ h. ne (h ∙ e))
      ∙ ap (λ ps. stored ps q) g.same_pairs

  pub insert_room : (q : List ℕ) → Contains (paths old) q → Contains (paths new) q
  insert_room q h = subst (λ (ps : List (List ℕ)). Contains ps q) (sym same_paths) (g.keeps_room q h)
