-- Values that are written whole.
use Rattle.std.proofs.Common.{◌≡◌, ◌∙◌, ℕ, Bool, true, false, cond, ◌&&◌, List, [], ◌∷◌, ◌++◌, codes, chars, nat_eq, take, drop, refl, ap, sym, lit<}
use Rattle.std.specs.Prelude.{encode_utf8, flat_map}
use Rattle.std.specs.List.{list_all}
use Rattle.std.specs.Str.{IsUtf8, encode_utf8_all}
use Rattle.std.proofs.lemmas.Bool.{eqb-true}
use Rattle.std.proofs.lemmas.List.{take-append-drop}
use Rattle.std.proofs.lemmas.List.Folds.{list_all-append}
use Rattle.std.proofs.lemmas.Str.{encode_ascii, encodes-chars}
use Rattle.metrics_exposition.specs.Names.{escape, escaped, is_plain}
use Rattle.metrics_exposition.proofs.SameLemmas.{both-true}

-- an ASCII character that is escaped isn't plain
refused : (c d : ℕ) (rest : List ℕ) → encode_utf8 d ≡ d ∷ [] → is_plain d ≡ false → nat_eq c d ≡ true → list_all is_plain (encode_utf8 c ++ rest) ≡ true → ⊥
refused c d rest one special is h =
    let here : list_all is_plain (encode_utf8 c ++ rest) ≡ false =
    ap (λ x. list_all is_plain (encode_utf8 x ++ rest)) (eqb-true c d is) ∙ ap (λ x. list_all is_plain (x ++ rest)) one ∙ ap (λ b. b && list_all is_plain rest) special in
    let e : true ≡ false = sym h ∙ here in cc

same-character : (c : ℕ) (rest : List ℕ) → list_all is_plain (encode_utf8 c ++ rest) ≡ true → escape c ≡ encode_utf8 c
same-character c rest h = go (nat_eq c 92) (nat_eq c 34) (nat_eq c 10) refl refl refl
  where
    go : (x y z : Bool) → nat_eq c 92 ≡ x → nat_eq c 34 ≡ y → nat_eq c 10 ≡ z → cond x (codes "\\\\") (cond y (codes "\\\"") (cond z (codes "\\n") (encode_utf8 c))) ≡ encode_utf8 c
    go true y z e f g = absurd (refused c 92 rest (encode_ascii 92 (lit< tt)) refl e h)
    go false true z e f g = absurd (refused c 34 rest (encode_ascii 34 (lit< tt)) refl f h)
    go false false true e f g = absurd (refused c 10 rest (encode_ascii 10 (lit< tt)) refl g h)
    go false false false e f g = refl

same-characters : (cs : List ℕ) → list_all is_plain (encode_utf8_all cs) ≡ true → flat_map escape cs ≡ encode_utf8_all cs
same-characters [] h = refl
same-characters (c ∷ cs) h =
    let rest = encode_utf8_all cs in
    let p = both-true (list_all is_plain (encode_utf8 c)) (list_all is_plain rest) (sym (list_all-append is_plain (encode_utf8 c) rest) ∙ h) in
    ap (λ x. x ++ flat_map escape cs) (same-character c rest h) ∙ ap (λ x. encode_utf8 c ++ x) (same-characters cs p.1)

pub value-whole : (v : List ℕ) → IsUtf8 v → list_all is_plain v ≡ true → escaped v ≡ v
value-whole v texts h =
    let is = encodes-chars v texts in
    same-characters (chars v) (ap (list_all is_plain) is ∙ h) ∙ is

-- a part of the bytes and the rest decide
pub plain-parts : (n : ℕ) (v a b : List ℕ) → a ≡ take n v → b ≡ drop n v → list_all is_plain v ≡ (list_all is_plain a && list_all is_plain b)
plain-parts n v a b front back =
    ap (list_all is_plain) (sym (take-append-drop n v) ∙ ap (λ x. x ++ drop n v) (sym front) ∙ ap (λ x. a ++ x) (sym back)) ∙ list_all-append is_plain a b
