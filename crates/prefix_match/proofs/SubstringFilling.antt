-- The rows, filled from the shorter states on.
use Rattle.std.proofs.Common.{◌≡◌, ℕ, suc, ◌+◌, ◌*◌, ◌<◌, ◌≤◌, ◌≢◌, Bool, false, ◌⊎◌, inl, inr, List, [], ◌∷◌, ◌++◌, length, get_or, replicate, sym, ◌∙◌, ap, subst, arith}
use Rattle.std.proofs.Math.Nat.{mul-le-mul_right, mul-le-mul_left}
use Rattle.std.proofs.lemmas.Bool.{cases_Bool, cases_eq, cases_lt, cases_order, false≢true, cond-true, cond-false}
use Rattle.std.proofs.lemmas.List.{length_push, get_or_default, same_from_push, get_or-replicate, length-replicate}
use Rattle.prefix_match.specs.declared.substring.trie.Node.{Node}
use Rattle.prefix_match.specs.declared.substring.trie.Place.{Place}
use Rattle.prefix_match.specs.Substring.{is_front, some_ends, longest_front, lowered_byte}
use Rattle.prefix_match.specs.SubstringStates.{node_at, text_of, IsTree, HasNoChild, HasFronts, IsByDepth, Falls, IsLink, IsLinked}
use Rattle.prefix_match.specs.SubstringTable.{matched, entry_of, column_of, HasColumns, WritesChildren, CopiesRow, FillsRow, IsRow, IsTable}
use Rattle.prefix_match.proofs.SubstringFronts.{longest_front_itself, longest_front_is, longest_front_tail, longest_front_nil}
use Rattle.prefix_match.proofs.SubstringStates.{text_of-root, text_of-child, same_state, child_front, last_or_before}
use Rattle.prefix_match.proofs.SubstringLinks.{fall_front, link_falls}
use Rattle.prefix_match.proofs.SubstringLinkLoops.{stands_before, state_within}
use Rattle.prefix_match.proofs.SubstringDepths.{no_place}

suc-times : (s w : ℕ) → suc s * w ≡ s * w + w
suc-times s w = grind arith

-- a row ends where the next begins
pub row_ends : (s n w : ℕ) → s < n → s * w + w ≤ n * w
row_ends s n w l = omega (arith, mul-le-mul_right {m = suc s} {n = n} w l, suc-times s w)

pub rows_apart : (x s w k : ℕ) → x ≢ s → k < w → (x * w + k < s * w) ⊎ (s * w + w ≤ x * w + k)
rows_apart x s w k ne l =
    elim (cases_order x s) [
      | inl same ↦ absurd (ne same)
      | inr o ↦ elim o [
        | inl less ↦ inl (omega (arith, row_ends x s w less))
        | inr more ↦ inr (omega (arith, row_ends s x w more))
      ]
    ]

pub row_apart : (x s w : ℕ) → x ≢ s → (x * w + w ≤ s * w) ⊎ (s * w + w ≤ x * w)
row_apart x s w ne =
    elim (cases_order x s) [
      | inl same ↦ absurd (ne same)
      | inr o ↦ elim o [ inl less ↦ inl (row_ends x s w less) | inr more ↦ inr (row_ends s x w more) ]
    ]

-- rows are few enough for their numbers
pub row_small : (s n w : ℕ) → s < n → n ≤ 1048577 → w ≤ 257 → s * w < matched
row_small s n w l few narrow = omega (arith, mul-le-mul_right {m = s} {n = 1048577} w (omega arith), mul-le-mul_left {m = w} {n = 257} 1048577 narrow)

not_here : (columns : List ℕ) (nodes : List Node) (width s x k c : ℕ) → x ≢ s → k < width → HasColumns nodes columns width → x * width + k ≡ s * width + column_of columns nodes c → ⊥
not_here columns nodes width s x k c d l cols e =
    elim (rows_apart x s width k d l) [
      | inl a ↦ absurd (omega arith)
      | inr b ↦ absurd (omega (arith, cols.below (node_at nodes c).byte))
    ]

-- a written row after a copy
pub row_filled : (nodes : List Node) (columns : List ℕ) (width s : ℕ) (old mid new : List ℕ) → 0 < s → (node_at nodes s).fail ≢ s → HasColumns nodes columns width → CopiesRow width ((node_at nodes s).fail * width) (s * width) old mid → WritesChildren nodes columns width s (s * width) mid new → FillsRow nodes columns width s old new
row_filled nodes columns width s old mid new up ne cols cp wr = record {
  len = wr.len ∙ cp.len;
  child = wr.child;
  root = λ z. absurd (omega arith);
  rest = λ _ k l apart. wr.rest (s * width + k) (λ c vp i p e. apart c vp i p (omega arith)) ∙ cp.copied k l;
  others = λ x k d l. wr.rest (x * width + k) (λ c vp i p e. not_here columns nodes width s x k c d l cols e) ∙ cp.rest (x * width + k) (rows_apart x s width k d l);
}

pub root_filled : (nodes : List Node) (columns : List ℕ) (width s : ℕ) (old new : List ℕ) → s ≡ 0 → HasColumns nodes columns width → WritesChildren nodes columns width s (s * width) old new → FillsRow nodes columns width s old new
root_filled nodes columns width s old new z cols wr = record {
  len = wr.len;
  child = wr.child;
  root = λ _ k l apart. wr.rest (s * width + k) (λ c vp i p e. apart c vp i p (omega arith));
  rest = λ up. absurd (omega arith);
  others = λ x k d l. wr.rest (x * width + k) (λ c vp i p e. not_here columns nodes width s x k c d l cols e);
}

-- the first k rows of the order are filled
pub record IsFilling (nodes : List Node) (columns : List ℕ) (width : ℕ) (order : List Place) (next : List ℕ) (k : ℕ) : Type 0 where
  pub len : length next ≡ length nodes * width
  pub root : (y : ℕ) → HasNoChild nodes 0 y → get_or next (0 * width + get_or columns y 0) 0 ≡ entry_of nodes width 0
  pub rows : (ps : List (List ℕ)) → IsLinked ps nodes → (j : ℕ) → j < k → IsRow ps nodes columns width next (get_or order j no_place).state

pub filling_start : (nodes : List Node) (columns : List ℕ) (width : ℕ) (order : List Place) (next : List ℕ) (e : ℕ) → 0 < length nodes → HasColumns nodes columns width → e ≡ entry_of nodes width 0 → next ≡ replicate (length nodes * width) e → IsFilling nodes columns width order next 0
filling_start nodes columns width order next e some cols is all = record {
  len = ap length all ∙ length-replicate (length nodes * width) e;
  root = λ y none. ap (λ xs. get_or xs (0 * width + get_or columns y 0) 0) all ∙ get_or-replicate (length nodes * width) (0 * width + get_or columns y 0) e 0 (omega (arith, cols.below y, row_ends 0 (length nodes) width some)) ∙ is;
  rows = λ ps k j h. absurd (omega arith);
}

-- a column that is no child's
apart_from : (ps : List (List ℕ)) (nodes : List Node) (columns : List ℕ) (width s y : ℕ) → IsTree nodes → HasColumns nodes columns width → HasNoChild nodes s y → (c : ℕ) → 0 < c → c < length nodes → (node_at nodes c).parent ≡ s → get_or columns y 0 ≡ column_of columns nodes c → ⊥
apart_from ps nodes columns width s y t cols none c up l p e = none c up l p (sym (cols.own y c up l e))

no_child_from : (ps : List (List ℕ)) (nodes : List Node) (s y : ℕ) → IsTree nodes → HasFronts ps nodes → is_front ps (text_of nodes s ++ y ∷ []) ≡ false → HasNoChild nodes s y
no_child_from ps nodes s y t has n c up l p q =
    false≢true (sym n ∙ child_front ps nodes s y c t has (record { above = up; within = l; parent = p; byte_is = q }))

-- the filled row leads on as the links do
row_is : (ps : List (List ℕ)) (nodes : List Node) (columns : List ℕ) (width : ℕ) (order : List Place) (old new : List ℕ) (k s : ℕ) → s ≡ (get_or order k no_place).state → IsLinked ps nodes → IsByDepth nodes order → k < length order → HasColumns nodes columns width → IsFilling nodes columns width order old k → FillsRow nodes columns width s old new → IsRow ps nodes columns width new s
row_is ps nodes columns width order old new k s at linked o l cols h f y x xl e =
    let t : IsTree nodes = linked.tree in
    let sl : s < length nodes = omega (arith, at, state_within nodes order k o l) in
    elim (cases_Bool (is_front ps (text_of nodes s ++ y ∷ []))) [
      | inl yes-front ↦ (
          let text : text_of nodes x ≡ text_of nodes s ++ y ∷ [] = e ∙ longest_front_itself ps _ yes-front in
          let up : 0 < x = elim (cases_lt 0 x) [
            | inl a ↦ a
            | inr b ↦ (let z : x ≡ 0 = omega arith in absurd (omega (arith, ap length (sym (text_of-root nodes) ∙ ap (text_of nodes) (sym z) ∙ text), length_push (text_of nodes s) y)))
          ] in
          let both = same_from_push (text_of nodes (node_at nodes x).parent) (text_of nodes s) (node_at nodes x).byte y (sym (text_of-child nodes x t up xl) ∙ text) in
          let down : (node_at nodes x).parent < x = t.parents x up xl in
          let p : (node_at nodes x).parent ≡ s = same_state nodes t _ s (omega arith) sl both.0 in
          ap (λ b. get_or new (s * width + get_or columns b 0) 0) (sym both.1) ∙ f.child x up xl p)
      | inr no-front ↦ (
          let none : HasNoChild nodes s y = no_child_from ps nodes s y t linked.has no-front in
          let apart = apart_from ps nodes columns width s y t cols none in
          elim (cases_lt 0 s) [
            | inl up ↦ (
                let link : IsLink ps nodes s = linked.links s sl in
                let fail : ℕ = (node_at nodes s).fail in
                let falls = link_falls ps nodes s t sl link up in
                let j = stands_before nodes order k fail o l falls.0 (subst (λ z. length (text_of nodes fail) < length (text_of nodes z)) at falls.1) in
                let row : IsRow ps nodes columns width old fail = subst (λ z. IsRow ps nodes columns width old z) j.1.1 (h.rows ps linked j.0 j.1.0) in
                f.rest up (get_or columns y 0) (cols.below y) apart ∙ row y x xl (e ∙ sym (fall_front ps nodes s y t linked.has up sl none link)))
            | inr low ↦ (
                let z : s ≡ 0 = omega arith in
                let nil : text_of nodes s ≡ [] = ap (text_of nodes) z ∙ text_of-root nodes in
                let empty : text_of nodes x ≡ text_of nodes 0 =
                e ∙ ap (λ w. longest_front ps (w ++ y ∷ [])) nil ∙ longest_front_tail ps y [] (ap (λ w. is_front ps (w ++ y ∷ [])) (sym nil) ∙ no-front) ∙ longest_front_nil ps ∙ sym (text_of-root nodes) in
                let zero-x : x ≡ 0 = same_state nodes t x 0 xl t.root empty in
                f.root z (get_or columns y 0) (cols.below y) apart
                ∙ ap (λ q. get_or old (q * width + get_or columns y 0) 0) z
                ∙ h.root y (subst (λ q. HasNoChild nodes q y) z none) ∙ ap (entry_of nodes width) (sym zero-x))
          ])
    ]

pub filling_more : (nodes : List Node) (columns : List ℕ) (width : ℕ) (order : List Place) (old new : List ℕ) (k s : ℕ) → s ≡ (get_or order k no_place).state → IsTree nodes → IsByDepth nodes order → k < length order → HasColumns nodes columns width → IsFilling nodes columns width order old k → FillsRow nodes columns width s old new → IsFilling nodes columns width order new (k + 1)
filling_more nodes columns width order old new k s at t o l cols h f = record {
  len = f.len ∙ h.len;
  root = λ y none. elim (cases_eq 0 s) [
    | inl z ↦ ap (λ q. get_or new (q * width + get_or columns y 0) 0) z ∙ f.root (sym z) (get_or columns y 0) (cols.below y) (apart_from [] nodes columns width s y t cols (subst (λ q. HasNoChild nodes q y) z none))
        ∙ ap (λ q. get_or old (q * width + get_or columns y 0) 0) (sym z) ∙ h.root y none
    | inr d ↦ f.others 0 (get_or columns y 0) d (cols.below y) ∙ h.root y none
  ];
  rows = λ ps linked j i. elim (cases_eq (get_or order j no_place).state s) [
    | inl same ↦ subst (λ z. IsRow ps nodes columns width new z) (sym same) (row_is ps nodes columns width order old new k s at linked o l cols h f)
    | inr d ↦ elim (last_or_before k j i) [
      | inl e ↦ absurd (d (ap (λ z. (get_or order z no_place).state) e ∙ sym at))
      | inr before ↦ λ y x xl e. f.others (get_or order j no_place).state (get_or columns y 0) d (cols.below y) ∙ h.rows ps linked j before y x xl e
    ]
  ];
}

pub other_than_fail : (nodes : List Node) (s : ℕ) → 0 < s → Falls nodes s → (node_at nodes s).fail ≢ s
other_than_fail nodes s up falls e = absurd (omega (arith, (falls up).1, ap (λ x. length (text_of nodes x)) e))

-- the full table
pub table_from : (ps : List (List ℕ)) (fold : Bool) (nodes : List Node) (columns classes : List ℕ) (width : ℕ) (order : List Place) (next : List ℕ) (k : ℕ) → IsLinked ps nodes → IsByDepth nodes order → length order ≤ k → length nodes ≤ 1048577 → width ≤ 257 → HasColumns nodes columns width → ((b : ℕ) → b < 256 → get_or classes b 0 ≡ get_or columns (lowered_byte fold b) 0) → IsFilling nodes columns width order next k → IsTable ps fold classes next (node_at nodes 0).matching
table_from ps fold nodes columns classes width order next k linked o all few narrow cols class h =
    let t : IsTree nodes = linked.tree in
    let every : (s : ℕ) → s < length nodes → IsRow ps nodes columns width next s = λ s l. (
    let c = o.all s l in
    let e : (get_or order c.0 no_place).state ≡ s = ap (λ y. y.state) (get_or_default order c.0 no_place _ c.1 ∙ c.2) in
    subst (λ z. IsRow ps nodes columns width next z) e (h.rows ps linked c.0 (omega (arith, c.1)))) in
    let state_of : (w : List ℕ) → (x : ℕ) × ((x < length nodes) × (text_of nodes x ≡ longest_front ps w)) = λ w. elim (longest_front_is ps w) [
      | inl a ↦ linked.has.fronts (longest_front ps w) a
      | inr b ↦ (0, (t.root, text_of-root nodes ∙ sym b))
    ] in
    record {
      text = text_of nodes;
      count = length nodes;
      width = width;
      some = t.root;
      narrow = narrow;
      len = h.len;
      class = λ b l. omega (arith, class b l, cols.below (lowered_byte fold b));
      root = text_of-root nodes;
      distinct = same_state nodes t;
      at_start = (linked.links 0 t.root).matching ∙ ap (some_ends ps) (text_of-root nodes);
      entries = λ s b sl bl. (
          let y : ℕ = lowered_byte fold b in
          let u : List ℕ = longest_front ps (text_of nodes s ++ y ∷ []) in
          let x = state_of (text_of nodes s ++ y ∷ []) in
          let e : get_or next (s * width + get_or classes b 0) 0 ≡ entry_of nodes width x.0 =
          ap (λ z. get_or next (s * width + z) 0) (class b bl) ∙ every s sl y x.0 x.1.0 x.1.1 in
          let m : (node_at nodes x.0).matching ≡ some_ends ps u = (linked.links x.0 x.1.0).matching ∙ ap (some_ends ps) x.1.1 in
          elim (cases_Bool (node_at nodes x.0).matching) [
            | inl hit ↦ inl (e ∙ cond-true _ matched (x.0 * width) hit, sym m ∙ hit)
            | inr miss ↦ (
                let row : get_or next (s * width + get_or classes b 0) 0 ≡ x.0 * width = e ∙ cond-false _ matched (x.0 * width) miss in
                inr (
                  x.0,
                  record {
                    within = x.1.0;
                    row = row;
                    below = omega (arith, row, row_small x.0 (length nodes) width x.1.0 few narrow);
                    text_is = x.1.1;
                    none = sym m ∙ miss;
                  },
                ))
          ]);
    }
