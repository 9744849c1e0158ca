-- A walk over the table.
use Rattle.std.proofs.Common.{◌≡◌, ℕ, ◌+◌, ◌*◌, ◌^◌, ◌<◌, ◌≤◌, ◌≢◌, Bool, true, false, inl, inr, List, [], ◌∷◌, ◌++◌, length, get_or, take, refl, sym, ◌∙◌, ap, subst, arith}
use Rattle.std.proofs.Math.Nat.{le_of_mul-le-mul_right}
use Rattle.std.proofs.lemmas.Bool.{cases_lt, false≢true}
use Rattle.std.proofs.lemmas.List.{take_more, get_or-map, length-map}
use Rattle.prefix_match.specs.Substring.{some_ends, longest_front, walk_end, lowered, lowered_byte}
use Rattle.prefix_match.specs.SubstringTable.{matched, IsTable, IsEntry, LeadsOn, IsTableWalk}
use Rattle.prefix_match.proofs.SubstringFronts.{longest_front_nil, longest_front_push, some_ends_front}
use Rattle.prefix_match.proofs.SubstringWalks.{walk_end_is, moves_to, moves_to_stay, moves_to_go, moves_is}
use Rattle.prefix_match.proofs.SubstringFilling.{row_ends}

-- the place of a walk after i bytes, without a match
pub record StandsAt (ps : List (List ℕ)) (text : ℕ → List ℕ) (count width : ℕ) (t : List ℕ) (i row counted : ℕ) : Type 0 where
  pub state : ℕ
  pub within : state < count
  pub row_is : row ≡ state * width
  pub text_is : text state ≡ longest_front ps (take i t)
  pub none : (k : ℕ) → k ≤ i → some_ends ps (take k t) ≡ false
  pub count_is : counted ≡ moves_to ps t i

pub record IsTabling (classes next raw : List ℕ) (i row counted : ℕ) : Type 0 where
  pub few : counted ≤ i
  pub small : row < 2 ^ 32
  pub at : (ps : List (List ℕ)) (fold : Bool) (t : IsTable ps fold classes next false) → StandsAt ps t.text t.count t.width (lowered fold raw) i row counted

zero-times : (w : ℕ) → 0 * w ≡ 0
zero-times w = grind arith

pub tabling_start : (classes next raw : List ℕ) → IsTabling classes next raw 0 0 0
tabling_start classes next raw = record {
  few = omega arith;
  small = omega arith;
  at = λ ps fold t. record {
    state = 0;
    within = t.some;
    row_is = sym (zero-times t.width);
    text_is = t.root ∙ sym (longest_front_nil ps);
    none = λ k l. (let z : k ≡ 0 = omega arith in ap (λ n. some_ends ps (take n (lowered fold raw))) z ∙ sym t.at_start);
    count_is = refl;
  };
}

-- the entry for one byte more
entry_more : (ps : List (List ℕ)) (fold : Bool) (classes next raw : List ℕ) (i row counted : ℕ) (t : IsTable ps fold classes next false) → i < length raw → get_or raw i 0 < 256 → (a : StandsAt ps t.text t.count t.width (lowered fold raw) i row counted) → IsEntry ps t.text t.count t.width (get_or next (row + get_or classes (get_or raw i 0) 0) 0) (longest_front ps (take (i + 1) (lowered fold raw)))
entry_more ps fold classes next raw i row counted t l fits a =
    let b : ℕ = get_or raw i 0 in
    let s : List ℕ = lowered fold raw in
    let y : lowered_byte fold b ≡ get_or s i 0 = sym (get_or-map (lowered_byte fold) raw i 0 0 l) in
    let front : longest_front ps (t.text a.state ++ lowered_byte fold b ∷ []) ≡ longest_front ps (take (i + 1) s) =
    ap (λ w. longest_front ps (w ++ lowered_byte fold b ∷ [])) a.text_is ∙ sym (longest_front_push ps (take i s) (lowered_byte fold b)) ∙ ap (λ z. longest_front ps (take i s ++ z ∷ [])) y ∙ ap (longest_front ps) (sym (take_more s i 0 (omega (arith, length-map raw (lowered_byte fold))))) in
    subst (λ w. IsEntry ps t.text t.count t.width (get_or next (row + get_or classes b 0) 0) w) front
    (subst (λ r. IsEntry ps t.text t.count t.width (get_or next (r + get_or classes b 0) 0) (longest_front ps (t.text a.state ++ lowered_byte fold b ∷ []))) (sym a.row_is) (t.entries a.state b a.within fits))

-- an entry that is a match
pub entry_hit : (ps : List (List ℕ)) (text : ℕ → List ℕ) (count width entry : ℕ) (front : List ℕ) → entry ≡ matched → IsEntry ps text count width entry front → some_ends ps front ≡ true
entry_hit ps text count width entry front e h = elim h [ inl a ↦ a.1 | inr b ↦ absurd (omega (arith, b.1.below)) ]

pub entry_on : (ps : List (List ℕ)) (text : ℕ → List ℕ) (count width entry : ℕ) (front : List ℕ) → entry ≢ matched → IsEntry ps text count width entry front → (x : ℕ) × LeadsOn ps text count width entry front x
entry_on ps text count width entry front d h = elim h [ inl a ↦ absurd (d a.0) | inr b ↦ b ]

-- the entry's place is within the table
pub tabling_within : (ps : List (List ℕ)) (fold : Bool) (classes next raw : List ℕ) (i row counted b : ℕ) (t : IsTable ps fold classes next false) → IsTabling classes next raw i row counted → b < 256 → row + get_or classes b 0 < length next
tabling_within ps fold classes next raw i row counted b t h l =
    let a = h.at ps fold t in
    omega (arith, a.row_is, row_ends a.state t.count t.width a.within, t.len, t.class b l)

pub table_hit : (ps : List (List ℕ)) (fold : Bool) (classes next raw : List ℕ) (i row counted : ℕ) → IsTable ps fold classes next false → i < length raw → get_or raw i 0 < 256 → IsTabling classes next raw i row counted → get_or next (row + get_or classes (get_or raw i 0) 0) 0 ≡ matched → IsTableWalk ps (lowered fold raw) true (counted + 1)
table_hit ps fold classes next raw i row counted t l fits h e =
    let a = h.at ps fold t in
    let s : List ℕ = lowered fold raw in
    let long : length s ≡ length raw = length-map raw (lowered_byte fold) in
    let front : some_ends ps (longest_front ps (take (i + 1) s)) ≡ true = entry_hit ps t.text t.count t.width _ _ e (entry_more ps fold classes next raw i row counted t l fits a) in
    let hit : some_ends ps (take (i + 1) s) ≡ true = some_ends_front ps (take (i + 1) s) ∙ front in
    let end : walk_end ps s ≡ i + 1 = walk_end_is ps s (i + 1) (omega arith) (λ k up. a.none k (omega arith)) (λ up. hit) in
    let apart : longest_front ps (take (i + 1) s) ≡ longest_front ps (take i s) → ⊥ = λ same.
    false≢true (sym (a.none i (omega arith)) ∙ some_ends_front ps (take i s) ∙ ap (some_ends ps) (sym same) ∙ front) in
    record {
      answer = ap (λ n. some_ends ps (take n s)) end ∙ hit;
      count = ap (λ n. n + 1) a.count_is ∙ sym (moves_to_go ps s i apart) ∙ moves_is ps s (i + 1) end;
    }

-- the states of one row are one
same_row : (x s w : ℕ) → 0 < w → x * w ≡ s * w → x ≡ s
same_row x s w up e =
    let a : x ≤ s = le_of_mul-le-mul_right {m = x} {n = s} {k = w} (omega arith) up in
    let b : s ≤ x = le_of_mul-le-mul_right {m = s} {n = x} {k = w} (omega arith) up in
    omega arith

pub table_go : (classes next raw : List ℕ) (i row counted entry : ℕ) → i < length raw → get_or raw i 0 < 256 → IsTabling classes next raw i row counted → entry ≡ get_or next (row + get_or classes (get_or raw i 0) 0) 0 → entry < 2 ^ 32 → entry ≢ matched → entry ≢ row → IsTabling classes next raw (i + 1) entry (counted + 1)
table_go classes next raw i row counted entry l fits h is low d moved = record {
  few = omega (arith, h.few);
  small = low;
  at = λ ps fold t. (
      let a = h.at ps fold t in
      let s : List ℕ = lowered fold raw in
      let on = entry_on ps t.text t.count t.width entry _ d (subst (λ z. IsEntry ps t.text t.count t.width z (longest_front ps (take (i + 1) s))) (sym is) (entry_more ps fold classes next raw i row counted t l fits a)) in
      let x : ℕ = on.0 in
      let hit : some_ends ps (take (i + 1) s) ≡ false = some_ends_front ps (take (i + 1) s) ∙ on.1.none in
      let apart : longest_front ps (take (i + 1) s) ≡ longest_front ps (take i s) → ⊥ = λ same.
      moved (on.1.row ∙ ap (λ z. z * t.width) (t.distinct x a.state on.1.within a.within (on.1.text_is ∙ same ∙ sym a.text_is)) ∙ sym a.row_is) in
      record {
        state = x;
        within = on.1.within;
        row_is = on.1.row;
        text_is = on.1.text_is;
        none = λ k up. elim (cases_lt k (i + 1)) [
          | inl before ↦ a.none k (omega arith)
          | inr after ↦ (let z : k ≡ i + 1 = omega arith in ap (λ n. some_ends ps (take n s)) z ∙ hit)
        ];
        count_is = ap (λ n. n + 1) a.count_is ∙ sym (moves_to_go ps s i apart);
      });
}

pub table_stay : (classes next raw : List ℕ) (i row counted entry : ℕ) → i < length raw → get_or raw i 0 < 256 → IsTabling classes next raw i row counted → entry ≡ get_or next (row + get_or classes (get_or raw i 0) 0) 0 → entry < 2 ^ 32 → entry ≢ matched → entry ≡ row → IsTabling classes next raw (i + 1) entry counted
table_stay classes next raw i row counted entry l fits h is low d stays = record {
  few = omega (arith, h.few);
  small = low;
  at = λ ps fold t. (
      let a = h.at ps fold t in
      let s : List ℕ = lowered fold raw in
      let on = entry_on ps t.text t.count t.width entry _ d (subst (λ z. IsEntry ps t.text t.count t.width z (longest_front ps (take (i + 1) s))) (sym is) (entry_more ps fold classes next raw i row counted t l fits a)) in
      let x : ℕ = on.0 in
      let hit : some_ends ps (take (i + 1) s) ≡ false = some_ends_front ps (take (i + 1) s) ∙ on.1.none in
      let up : 0 < t.width = omega (arith, t.class (get_or raw i 0) fits) in
      let one : x ≡ a.state = same_row x a.state t.width up (sym on.1.row ∙ stays ∙ a.row_is) in
      let same : longest_front ps (take (i + 1) s) ≡ longest_front ps (take i s) = sym on.1.text_is ∙ ap t.text one ∙ a.text_is in
      record {
        state = x;
        within = on.1.within;
        row_is = on.1.row;
        text_is = on.1.text_is;
        none = λ k up. elim (cases_lt k (i + 1)) [
          | inl before ↦ a.none k (omega arith)
          | inr after ↦ (let z : k ≡ i + 1 = omega arith in ap (λ n. some_ends ps (take n s)) z ∙ hit)
        ];
        count_is = a.count_is ∙ sym (moves_to_stay ps s i same);
      });
}

pub table_over : (ps : List (List ℕ)) (fold : Bool) (classes next raw : List ℕ) (i row counted : ℕ) → IsTable ps fold classes next false → i ≡ length raw → IsTabling classes next raw i row counted → IsTableWalk ps (lowered fold raw) false counted
table_over ps fold classes next raw i row counted t all h =
    let a = h.at ps fold t in
    let s : List ℕ = lowered fold raw in
    let long : length s ≡ length raw = length-map raw (lowered_byte fold) in
    let end : walk_end ps s ≡ i = walk_end_is ps s i (omega arith) (λ k up. a.none k (omega arith)) (λ up. absurd (omega arith)) in
    record {
      answer = ap (λ n. some_ends ps (take n s)) end ∙ a.none i (omega arith);
      count = a.count_is ∙ moves_is ps s i end;
    }

-- if the empty list is a pattern, no byte is read
pub table_at_start : (ps : List (List ℕ)) (t : List ℕ) → some_ends ps [] ≡ true → IsTableWalk ps t true 0
table_at_start ps t hit =
    let end : walk_end ps t ≡ 0 = walk_end_is ps t 0 (omega arith) (λ k up. absurd (omega arith)) (λ up. hit) in
    record {
      answer = ap (λ n. some_ends ps (take n t)) end ∙ hit;
      count = moves_is ps t 0 end;
    }
