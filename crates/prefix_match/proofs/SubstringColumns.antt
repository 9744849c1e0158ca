-- The numbering of the bytes.
use Rattle.std.proofs.Common.{◌≡◌, ℕ, ◌+◌, ◌<◌, ◌≤◌, ◌≢◌, Bool, true, false, inl, inr, List, length, get_or, set, replicate, sym, ◌∙◌, ap, arith}
use Rattle.std.proofs.lemmas.Bool.{cases_eq, cases_lt, false≢true}
use Rattle.std.proofs.lemmas.List.{get_or-set_same, get_or-set_other, length-set, get_or-replicate, get_or_past, length-replicate}
use Rattle.prefix_match.specs.SubstringTable.{IsNumbering, MarksBytes, HasColumns}
use Rattle.prefix_match.specs.declared.substring.trie.Node.{Node}
use Rattle.prefix_match.specs.SubstringStates.{node_at}
use Rattle.prefix_match.proofs.SubstringStates.{last_or_before}

pub record IsNumberingTo (used : List Bool) (columns : List ℕ) (last b : ℕ) : Type 0 where
  pub len : length columns ≡ 256
  pub few : last ≤ b
  pub below : (y : ℕ) → get_or columns y 0 ≤ last
  pub some : (y : ℕ) → y < b → get_or used y false ≡ true → 0 < get_or columns y 0
  pub none : (y : ℕ) → b ≤ y → get_or columns y 0 ≡ 0
  pub own : (y z : ℕ) → y < b → z < b → get_or used z false ≡ true → get_or columns y 0 ≡ get_or columns z 0 → y ≡ z

zeros : (n y z : ℕ) → get_or (replicate n z) y z ≡ z
zeros n y z = elim (cases_lt y n) [ inl a ↦ get_or-replicate n y z z a | inr b ↦ get_or_past (replicate n z) y z (omega (arith, length-replicate n z)) ]

pub numbering_start : (used : List Bool) (columns : List ℕ) → columns ≡ replicate 256 0 → IsNumberingTo used columns 0 0
numbering_start used columns e =
    let nil : (y : ℕ) → get_or columns y 0 ≡ 0 = λ y. ap (λ xs. get_or xs y 0) e ∙ zeros 256 y 0 in
    record {
      len = ap length e ∙ (let z : ℕ = 0 in length-replicate 256 z);
      few = omega arith;
      below = λ y. omega (arith, nil y);
      some = λ y h. absurd (omega arith);
      none = λ y h. nil y;
      own = λ y z h. absurd (omega arith);
    }

pub numbering_more : (used : List Bool) (columns : List ℕ) (last b : ℕ) → b < 256 → IsNumberingTo used columns last b → IsNumberingTo used (set columns b (last + 1)) (last + 1) (b + 1)
numbering_more used columns last b l h =
    let new : List ℕ = set columns b (last + 1) in
    let here : get_or new b 0 ≡ last + 1 = get_or-set_same columns b (last + 1) 0 (omega (arith, h.len)) in
    let other : (y : ℕ) → y ≢ b → get_or new y 0 ≡ get_or columns y 0 = λ y ne. get_or-set_other columns b y (last + 1) 0 ne in
    record {
      len = length-set columns b (last + 1) ∙ h.len;
      few = omega (arith, h.few);
      below = λ y. elim (cases_eq y b) [
        | inl e ↦ omega (arith, ap (λ z. get_or new z 0) e)
        | inr d ↦ omega (arith, other y d, h.below y)
      ];
      some = λ y i u. elim (last_or_before b y i) [
        | inl e ↦ omega (arith, ap (λ z. get_or new z 0) e)
        | inr before ↦ (let d : y ≢ b = omega arith in omega (arith, other y d, h.some y before u))
      ];
      none = λ y i. (let d : y ≢ b = omega arith in other y d ∙ h.none y (omega arith));
      own = λ y z i j u e. elim (last_or_before b y i) [
        | inl a ↦ elim (last_or_before b z j) [
          | inl c ↦ omega arith
          | inr c ↦ (let d : z ≢ b = omega arith in absurd (omega (arith, ap (λ k. get_or new k 0) a, other z d, h.below z)))
        ]
        | inr a ↦ elim (last_or_before b z j) [
          | inl c ↦ (let d : y ≢ b = omega arith in absurd (omega (arith, ap (λ k. get_or new k 0) c, other y d, h.below y)))
          | inr c ↦ (let d : y ≢ b = omega arith in let d' : z ≢ b = omega arith in h.own y z a c u (sym (other y d) ∙ e ∙ other z d'))
        ]
      ];
    }

pub numbering_skip : (used : List Bool) (columns : List ℕ) (last b : ℕ) → get_or used b false ≡ false → IsNumberingTo used columns last b → IsNumberingTo used columns last (b + 1)
numbering_skip used columns last b no-use h =
    let apart : (z : ℕ) → z ≡ b → get_or used z false ≡ true → ⊥ = λ z e u. false≢true (sym no-use ∙ ap (λ k. get_or used k false) (sym e) ∙ u) in
    record {
      len = h.len;
      few = omega (arith, h.few);
      below = h.below;
      some = λ y i u. elim (last_or_before b y i) [
        | inl e ↦ absurd (apart y e u)
        | inr before ↦ h.some y before u
      ];
      none = λ y i. h.none y (omega arith);
      own = λ y z i j u e. elim (last_or_before b z j) [
        | inl c ↦ absurd (apart z c u)
        | inr c ↦ elim (last_or_before b y i) [
          | inl a ↦ absurd (omega (arith, h.none y (omega arith), h.some z c u))
          | inr a ↦ h.own y z a c u e
        ]
      ];
    }

pub numbering_end : (used : List Bool) (columns : List ℕ) (last b : ℕ) → length used ≡ 256 → 256 ≤ b → IsNumberingTo used columns last b → IsNumbering used columns (last + 1)
numbering_end used columns last b len all h =
    let inside : (z : ℕ) → get_or used z false ≡ true → z < 256 = λ z u. elim (cases_lt z 256) [
      | inl a ↦ a
      | inr o ↦ absurd (false≢true (sym (get_or_past used z false (omega arith)) ∙ u))
    ] in
    record {
      below = λ y. omega (arith, h.below y);
      own = λ y z u e. elim (cases_lt y 256) [
        | inl a ↦ h.own y z (omega arith) (omega (arith, inside z u)) u e
        | inr o ↦ absurd (omega (arith, get_or_past columns y 0 (omega (arith, h.len)), h.some z (omega (arith, inside z u)) u))
      ];
    }

pub columns_from : (nodes : List Node) (used : List Bool) (columns : List ℕ) (width : ℕ) → MarksBytes nodes used → IsNumbering used columns width → HasColumns nodes columns width
columns_from nodes used columns width m h = record {
  below = h.below;
  own = λ y c up l e. h.own y (node_at nodes c).byte (m c up l) e;
}
