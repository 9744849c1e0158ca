-- Steps along fail links, and what linking a state changes.
use Rattle.std.proofs.Common.{◌≡◌, ℕ, ◌+◌, ◌<◌, ◌≤◌, Bool, true, false, ◌||◌, Option, Some, None, ◌⊎◌, inl, inr, List, [], ◌∷◌, ◌++◌, length, drop, get_or, set, refl, sym, ◌∙◌, ap, arith}
use Rattle.std.proofs.lemmas.Bool.{cases_lt}
use Rattle.std.proofs.lemmas.List.{length_push, length-drop, get_or-set_same, get_or_push, get_or_append_left}
use Rattle.std.specs.Option.{IfSome, IfNone, unwrap_or}
use Rattle.prefix_match.specs.declared.substring.trie.Node.{Node}
use Rattle.prefix_match.specs.Substring.{is_front, some_ends, is_pattern, longest_front}
use Rattle.prefix_match.specs.SubstringStates.{no_node, node_at, text_of, IsTree, IsChild, HasNoChild, HasFronts, KeepsShape, Falls, FallsBelow, IsLink, IsLinkedBelow, IsMarked, IsLinked}
use Rattle.prefix_match.proofs.SubstringFronts.{longest_front_nil, longest_front_itself, longest_front_tail, longest_front_push, length-longest_front, some_ends_cons, some_ends_nil, some_ends_front}
use Rattle.prefix_match.proofs.SubstringStates.{text_of-root, text_of-child, child_text, child_front, no_child_front, last_or_before}
use Rattle.prefix_match.proofs.SubstringDepths.{depth_more}
use Rattle.prefix_match.proofs.SubstringShapes.{shape-set, shape_text}

-- a state other than the root has some byte
first_byte : (w : List ℕ) → 0 < length w → (y : ℕ) × (w ≡ y ∷ drop 1 w)
first_byte [] h = absurd (omega arith)
first_byte (y ∷ w) h = (y, refl)

pub text_above : (nodes : List Node) (x : ℕ) → IsTree nodes → 0 < x → x < length nodes → 0 < length (text_of nodes x)
text_above nodes x t up l = omega (arith, ap length (text_of-child nodes x t up l), length_push (text_of nodes (node_at nodes x).parent) (node_at nodes x).byte)

drop_push : (w : List ℕ) (b : ℕ) → 0 < length w → drop 1 (w ++ b ∷ []) ≡ drop 1 w ++ b ∷ []
drop_push [] b h = absurd (omega arith)
drop_push (y ∷ w) b h = refl

-- what is no prefix goes on without its first byte
shorter : (ps : List (List ℕ)) (w : List ℕ) (b : ℕ) → 0 < length w → is_front ps (w ++ b ∷ []) ≡ false → longest_front ps (longest_front ps (drop 1 w) ++ b ∷ []) ≡ longest_front ps (w ++ b ∷ [])
shorter ps [] b h n = absurd (omega arith)
shorter ps (y ∷ w) b h n = sym (longest_front_push ps w b) ∙ sym (longest_front_tail ps y (w ++ b ∷ []) n)

pub fall_front : (ps : List (List ℕ)) (nodes : List Node) (s b : ℕ) → IsTree nodes → HasFronts ps nodes → 0 < s → s < length nodes → HasNoChild nodes s b → IsLink ps nodes s → longest_front ps (text_of nodes (node_at nodes s).fail ++ b ∷ []) ≡ longest_front ps (text_of nodes s ++ b ∷ [])
fall_front ps nodes s b t f up l none k =
    ap (λ w. longest_front ps (w ++ b ∷ [])) (k.fail up) ∙ shorter ps (text_of nodes s) b (text_above nodes s t up l) (no_child_front ps nodes s b t f l none)

pub child_longest : (ps : List (List ℕ)) (nodes : List Node) (s b c : ℕ) → IsTree nodes → HasFronts ps nodes → IsChild nodes s b c → text_of nodes c ≡ longest_front ps (text_of nodes s ++ b ∷ [])
child_longest ps nodes s b c t f h = child_text nodes s b c t h ∙ sym (longest_front_itself ps _ (child_front ps nodes s b c t f h))

pub child_length : (nodes : List Node) (s b c : ℕ) → IsTree nodes → IsChild nodes s b c → length (text_of nodes c) ≡ length (text_of nodes s) + 1
child_length nodes s b c t h = ap length (child_text nodes s b c t h) ∙ length_push (text_of nodes s) b

pub root_longest : (ps : List (List ℕ)) (nodes : List Node) (b : ℕ) → IsTree nodes → HasFronts ps nodes → HasNoChild nodes 0 b → text_of nodes 0 ≡ longest_front ps (text_of nodes 0 ++ b ∷ [])
root_longest ps nodes b t f none =
    let no : is_front ps (b ∷ []) ≡ false = ap (λ w. is_front ps (w ++ b ∷ [])) (sym (text_of-root nodes)) ∙ no_child_front ps nodes 0 b t f t.root none in
    text_of-root nodes ∙ sym (ap (λ w. longest_front ps (w ++ b ∷ [])) (text_of-root nodes) ∙ longest_front_tail ps b [] no ∙ longest_front_nil ps)

-- links lead to shorter texts
pub link_falls : (ps : List (List ℕ)) (nodes : List Node) (x : ℕ) → IsTree nodes → x < length nodes → IsLink ps nodes x → Falls nodes x
link_falls ps nodes x t l k up =
    (k.within, omega (arith, ap length (k.fail up), length-longest_front ps (drop 1 (text_of nodes x)), length-drop 1 (text_of nodes x), text_above nodes x t up l))

pub linked_falls : (ps : List (List ℕ)) (nodes : List Node) (d : ℕ) → IsLinked ps nodes → FallsBelow nodes d
linked_falls ps nodes d k x l h = link_falls ps nodes x k.tree l (k.links x l)

twice : (p e : Bool) → ((p || e) || e) ≡ (p || e)
twice true e = refl
twice false true = refl
twice false false = refl

same_or : (m : Bool) → (m || m) ≡ m
same_or true = refl
same_or false = refl

-- the match of a state that is linked to f
matches : (ps : List (List ℕ)) (w : List ℕ) (m g : Bool) → 0 < length w → (m ≡ is_pattern ps w) ⊎ (m ≡ some_ends ps w) → g ≡ some_ends ps (drop 1 w) → (m || g) ≡ some_ends ps w
matches ps [] m g h a e = absurd (omega arith)
matches ps (y ∷ w) m g h a e =
    elim a [
      | inl p ↦ ap (λ b. b || g) p ∙ ap (λ b. is_pattern ps (y ∷ w) || b) e ∙ sym (some_ends_cons ps y w)
      | inr p ↦ ap (λ b. b || g) p ∙ ap (λ b. some_ends ps (y ∷ w) || b) e ∙ ap (λ b. b || some_ends ps w) (some_ends_cons ps y w) ∙ twice (is_pattern ps (y ∷ w)) (some_ends ps w) ∙ sym (some_ends_cons ps y w)
    ]

matches_root : (ps : List (List ℕ)) (m : Bool) → (m ≡ is_pattern ps []) ⊎ (m ≡ some_ends ps []) → (m || m) ≡ some_ends ps []
matches_root ps m a = same_or m ∙ elim a [ inl p ↦ p ∙ sym (some_ends_nil ps) | inr p ↦ p ]

-- a step goes on where the walk of the shorter text would
pub fail_front : (ps : List (List ℕ)) (nodes : List Node) (s a : ℕ) → IsTree nodes → 0 < s → s < length nodes → 0 < (node_at nodes s).parent → text_of nodes a ≡ longest_front ps (drop 1 (text_of nodes (node_at nodes s).parent)) → longest_front ps (text_of nodes a ++ (node_at nodes s).byte ∷ []) ≡ longest_front ps (drop 1 (text_of nodes s))
fail_front ps nodes s a t up l vp e =
    let p : ℕ = (node_at nodes s).parent in
    let b : ℕ = (node_at nodes s).byte in
    let down : p < s = t.parents s up l in
    let some : 0 < length (text_of nodes p) = text_above nodes p t vp (omega arith) in
    ap (λ w. longest_front ps (w ++ b ∷ [])) e ∙ sym (longest_front_push ps (drop 1 (text_of nodes p)) b) ∙ ap (longest_front ps) (sym (drop_push (text_of nodes p) b some) ∙ ap (drop 1) (sym (text_of-child nodes s t up l)))

pub root_fail_front : (ps : List (List ℕ)) (nodes : List Node) (s : ℕ) → IsTree nodes → 0 < s → s < length nodes → (node_at nodes s).parent ≡ 0 → text_of nodes 0 ≡ longest_front ps (drop 1 (text_of nodes s))
root_fail_front ps nodes s t up l z =
    let b : ℕ = (node_at nodes s).byte in
    let one : text_of nodes s ≡ b ∷ [] = text_of-child nodes s t up l ∙ ap (λ x. text_of nodes x ++ b ∷ []) z ∙ ap (λ w. w ++ b ∷ []) (text_of-root nodes) in
    text_of-root nodes ∙ sym (ap (λ w. longest_front ps (drop 1 w)) one ∙ longest_front_nil ps)

-- the root's row, one byte more
pub root_more : (nodes : List Node) (xs : List ℕ) (b v : ℕ) → length xs ≡ b → ((y : ℕ) → y < b → 0 < get_or xs y 0 → IsChild nodes 0 y (get_or xs y 0)) → (0 < v → IsChild nodes 0 b v) → (y : ℕ) → y < b + 1 → 0 < get_or (xs ++ v ∷ []) y 0 → IsChild nodes 0 y (get_or (xs ++ v ∷ []) y 0)
root_more nodes xs b v len each new y h =
    elim (last_or_before b y h) [
      | inl same ↦ (let e : get_or (xs ++ v ∷ []) y 0 ≡ v = ap (λ z. get_or (xs ++ v ∷ []) z 0) same ∙ get_or_push xs v 0 b len in
          rw (e, same) new)
      | inr before ↦ (let e : get_or (xs ++ v ∷ []) y 0 ≡ get_or xs y 0 = get_or_append_left xs (v ∷ []) 0 y (omega arith) in rw e (each y before))
    ]

pub root_more_none : (nodes : List Node) (xs : List ℕ) (b v : ℕ) → length xs ≡ b → ((y : ℕ) → y < b → get_or xs y 0 ≡ 0 → HasNoChild nodes 0 y) → (v ≡ 0 → HasNoChild nodes 0 b) → (y : ℕ) → y < b + 1 → get_or (xs ++ v ∷ []) y 0 ≡ 0 → HasNoChild nodes 0 y
root_more_none nodes xs b v len each new y h =
    elim (last_or_before b y h) [
      | inl same ↦ (let e : get_or (xs ++ v ∷ []) y 0 ≡ v = ap (λ z. get_or (xs ++ v ∷ []) z 0) same ∙ get_or_push xs v 0 b len in
          rw (e, same) new)
      | inr before ↦ (let e : get_or (xs ++ v ∷ []) y 0 ≡ get_or xs y 0 = get_or_append_left xs (v ∷ []) 0 y (omega arith) in rw e (each y before))
    ]

-- what a look-up answers, as a number
pub option_child : (nodes : List Node) (s b : ℕ) (o : Option ℕ) → IfSome o (IsChild nodes s b) → IfNone o (HasNoChild nodes s b) → (0 < unwrap_or o 0 → IsChild nodes s b (unwrap_or o 0)) × (unwrap_or o 0 ≡ 0 → HasNoChild nodes s b)
option_child nodes s b None f n = (λ h. absurd (omega arith), λ _. n)
option_child nodes s b (Some x) f n = (λ _. f, λ z. absurd (omega (arith, f.above)))

-- one step down a fail link
pub fall_more : (nodes : List Node) (from s b m : ℕ) → IsTree nodes → FallsBelow nodes (length (text_of nodes from) + 1) → 0 < s → s < length nodes → HasNoChild nodes s b → m + length (text_of nodes s) ≤ length (text_of nodes from) → ((node_at nodes s).fail < length nodes) × (m + 1 + length (text_of nodes (node_at nodes s).fail) ≤ length (text_of nodes from)) × ((ps : List (List ℕ)) → HasFronts ps nodes → IsLinkedBelow ps nodes (length (text_of nodes from) + 1) → longest_front ps (text_of nodes (node_at nodes s).fail ++ b ∷ []) ≡ longest_front ps (text_of nodes s ++ b ∷ []))
fall_more nodes from s b m t falls up l none cost =
    let f = falls s l (omega arith) up in
    (f.0, omega (arith, f.1), λ ps has links. fall_front ps nodes s b t has up l none (links s l (omega arith)))

marked_nil : (ps : List (List ℕ)) (m : Bool) (w : List ℕ) → w ≡ [] → (m ≡ is_pattern ps w) ⊎ (m ≡ some_ends ps w) → (m ≡ is_pattern ps []) ⊎ (m ≡ some_ends ps [])
marked_nil ps m w e a = elim a [ inl p ↦ inl (p ∙ ap (is_pattern ps) e) | inr p ↦ inr (p ∙ ap (some_ends ps) e) ]

-- a state with its new fail link and match
pub linked_state : (ps : List (List ℕ)) (nodes new : List Node) (s f : ℕ) → IsTree nodes → s < length nodes → KeepsShape nodes new → (node_at new s).fail ≡ f → f < length nodes → (node_at new s).matching ≡ ((node_at nodes s).matching || (node_at nodes f).matching) → (0 < s → text_of nodes f ≡ longest_front ps (drop 1 (text_of nodes s))) → (s ≡ 0 → f ≡ 0) → IsLinkedBelow ps nodes (length (text_of nodes s)) → IsMarked ps nodes s → IsLink ps new s
linked_state ps nodes new s f t l k is fl m text root below marked =
    let n : length new ≡ length nodes = k.len in
    let same : (x : ℕ) → x < length nodes → text_of new x ≡ text_of nodes x = shape_text nodes new k t in
    record {
      within = omega arith;
      fail = λ up. ap (text_of new) is ∙ same f fl ∙ text up ∙ ap (λ w. longest_front ps (drop 1 w)) (sym (same s l));
      matching = m ∙ elim (cases_lt 0 s) [
        | inl up ↦ (
            let short : length (text_of nodes f) < length (text_of nodes s) =
            omega (arith, ap length (text up), length-longest_front ps (drop 1 (text_of nodes s)), length-drop 1 (text_of nodes s), text_above nodes s t up l) in
            let e : (node_at nodes f).matching ≡ some_ends ps (drop 1 (text_of nodes s)) =
            (below f fl short).matching ∙ ap (some_ends ps) (text up) ∙ sym (some_ends_front ps (drop 1 (text_of nodes s))) in
            matches ps (text_of nodes s) _ _ (text_above nodes s t up l) marked e ∙ ap (some_ends ps) (sym (same s l)))
        | inr z ↦ (
            let zero-s : s ≡ 0 = omega arith in
            let nil : text_of nodes s ≡ [] = ap (text_of nodes) zero-s ∙ text_of-root nodes in
            let f-s : f ≡ s = root zero-s ∙ sym zero-s in
            ap (λ x. (node_at nodes s).matching || (node_at nodes x).matching) f-s
            ∙ matches_root ps (node_at nodes s).matching (marked_nil ps (node_at nodes s).matching (text_of nodes s) nil marked)
            ∙ ap (some_ends ps) (sym (same s l ∙ nil)))
      ];
    }

pub parent_up : (nodes : List Node) (s : ℕ) → IsTree nodes → 0 < (node_at nodes s).parent → 0 < s
parent_up nodes s t vp = elim (cases_lt 0 s) [
  | inl up ↦ up
  | inr z ↦ (let e : s ≡ 0 = omega arith in absurd (omega (arith, ap (λ x. (node_at nodes x).parent) e, t.root_parent)))
]

-- the state that the parent's fail link leads to is two bytes shorter
pub above_falls : (nodes : List Node) (s : ℕ) → IsTree nodes → s < length nodes → 0 < (node_at nodes s).parent → FallsBelow nodes (length (text_of nodes s)) → ((node_at nodes s).parent < length nodes) × ((node_at nodes (node_at nodes s).parent).fail < length nodes) × (length (text_of nodes (node_at nodes (node_at nodes s).parent).fail) + 2 ≤ length (text_of nodes s))
above_falls nodes s t l vp falls =
    let p : ℕ = (node_at nodes s).parent in
    let up : 0 < s = parent_up nodes s t vp in
    let down : p < s = t.parents s up l in
    let more : length (text_of nodes s) ≡ length (text_of nodes p) + 1 = depth_more nodes s t up l in
    let f = falls p (omega arith) (omega arith) vp in
    (omega arith, f.0, omega (arith, f.1))

abbrev pub with_link : List Node → ℕ → ℕ → Bool → List Node
with_link nodes s f m = set nodes s (record (node_at nodes s) { fail = f; matching = m })

pub with_link_shape : (nodes : List Node) (s f : ℕ) (m : Bool) → s < length nodes → KeepsShape nodes (with_link nodes s f m)
with_link_shape nodes s f m l = shape-set nodes s (record (node_at nodes s) { fail = f; matching = m }) l refl refl refl refl

pub with_link_here : (nodes : List Node) (s f : ℕ) (m : Bool) → s < length nodes → node_at (with_link nodes s f m) s ≡ record (node_at nodes s) { fail = f; matching = m }
with_link_here nodes s f m l = get_or-set_same nodes s (record (node_at nodes s) { fail = f; matching = m }) no_node l

pub with_link_falls : (nodes : List Node) (s f : ℕ) (m : Bool) → IsTree nodes → s < length nodes → f < length nodes → (0 < s → length (text_of nodes f) < length (text_of nodes s)) → Falls (with_link nodes s f m) s
with_link_falls nodes s f m t l fl short up =
    let new : List Node = with_link nodes s f m in
    let k : KeepsShape nodes new = with_link_shape nodes s f m l in
    let is : (node_at new s).fail ≡ f = ap (λ y. y.fail) (with_link_here nodes s f m l) in
    let text-f : length (text_of new (node_at new s).fail) ≡ length (text_of nodes f) = ap (λ x. length (text_of new x)) is ∙ ap length (shape_text nodes new k t f fl) in
    let text-s : length (text_of new s) ≡ length (text_of nodes s) = ap length (shape_text nodes new k t s l) in
    (omega (arith, k.len), omega (arith, short up))
