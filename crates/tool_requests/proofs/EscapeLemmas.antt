-- Quoted values.
use Rattle.std.proofs.Common.{◌≡◌, ◌≢◌, ◌∙◌, ℕ, Bool, true, false, cond, List, [], ◌∷◌, ◌++◌, codes, drop, get_or, nat_eq, append_assoc, refl, ap, sym, arith}
use Rattle.std.proofs.lemmas.Bool.{eqb-true, eqb-false}
use Rattle.tool_requests.specs.Lines.{escape, escaped, StartsElse}

-- a character's escape
pub data Escape (c : ℕ) (bs : List ℕ) : Type 0 where
  slash : c ≡ 92 → bs ≡ 92 ∷ 92 ∷ [] → Escape c bs
  quote : c ≡ 34 → bs ≡ 92 ∷ 34 ∷ [] → Escape c bs
  feed : c ≡ 10 → bs ≡ 92 ∷ 110 ∷ [] → Escape c bs
  itself : c ≢ 92 → c ≢ 34 → c ≢ 10 → bs ≡ c ∷ [] → Escape c bs

abbrev third : ℕ → Bool → List ℕ
third c z = cond z (codes "\\n") (c ∷ [])

abbrev second : ℕ → Bool → Bool → List ℕ
second c y z = cond y (codes "\\\"") (third c z)

by-feed : (c : ℕ) (z : Bool) → nat_eq c 10 ≡ z → nat_eq c 92 ≡ false → nat_eq c 34 ≡ false → Escape c (third c z)
by-feed c true e s q = feed (eqb-true c 10 e) refl
by-feed c false e s q = itself (eqb-false c 92 s) (eqb-false c 34 q) (eqb-false c 10 e) refl

by-quote : (c : ℕ) (y : Bool) → nat_eq c 34 ≡ y → nat_eq c 92 ≡ false → Escape c (second c y (nat_eq c 10))
by-quote c true e s = quote (eqb-true c 34 e) refl
by-quote c false e s = by-feed c (nat_eq c 10) refl s e

by-slash : (c : ℕ) (x : Bool) → nat_eq c 92 ≡ x → Escape c (cond x (codes "\\\\") (second c (nat_eq c 34) (nat_eq c 10)))
by-slash c true e = slash (eqb-true c 92 e) refl
by-slash c false e = by-quote c (nat_eq c 34) refl e

pub escape-is : (c : ℕ) → Escape c (escape c)
escape-is c = by-slash c (nat_eq c 92) refl

module _ (c d : ℕ) (bs ds x y : List ℕ) where
  -- the second bytes differ
  apart : (m n : ℕ) → bs ≡ 92 ∷ m ∷ [] → ds ≡ 92 ∷ n ∷ [] → bs ++ x ≡ ds ++ y → m ≡ n
  apart m n f g e = ap (λ l. get_or l 1 0) (sym (ap (λ l. l ++ x) f) ∙ e ∙ ap (λ l. l ++ y) g)

  behind : (m : ℕ) → bs ≡ 92 ∷ m ∷ [] → ds ≡ 92 ∷ m ∷ [] → bs ++ x ≡ ds ++ y → x ≡ y
  behind m f g e = ap (drop 2) (sym (ap (λ l. l ++ x) f) ∙ e ∙ ap (λ l. l ++ y) g)

  mixed : (m : ℕ) → bs ≡ 92 ∷ m ∷ [] → d ≢ 92 → ds ≡ d ∷ [] → bs ++ x ≡ ds ++ y → ⊥
  mixed m f h g e = h (sym (ap (λ l. get_or l 0 0) (sym (ap (λ l. l ++ x) f) ∙ e ∙ ap (λ l. l ++ y) g)))

  plain : bs ≡ c ∷ [] → ds ≡ d ∷ [] → bs ++ x ≡ ds ++ y → (c ≡ d) × (x ≡ y)
  plain f g e =
      let both : c ∷ x ≡ d ∷ y = sym (ap (λ l. l ++ x) f) ∙ e ∙ ap (λ l. l ++ y) g in
      (ap (λ l. get_or l 0 0) both, ap (drop 1) both)

escapes-same : (c d : ℕ) (bs ds x y : List ℕ) → Escape c bs → Escape d ds → bs ++ x ≡ ds ++ y → (c ≡ d) × (x ≡ y)
escapes-same c d bs ds x y (slash k f) (slash l g) e = (k ∙ sym l, behind c d bs ds x y 92 f g e)
escapes-same c d bs ds x y (slash k f) (quote l g) e = absurd (let h = apart c d bs ds x y 92 34 f g e in omega (arith, h))
escapes-same c d bs ds x y (slash k f) (feed l g) e = absurd (let h = apart c d bs ds x y 92 110 f g e in omega (arith, h))
escapes-same c d bs ds x y (slash k f) (itself l q n g) e = absurd (mixed c d bs ds x y 92 f l g e)
escapes-same c d bs ds x y (quote k f) (slash l g) e = absurd (let h = apart c d bs ds x y 34 92 f g e in omega (arith, h))
escapes-same c d bs ds x y (quote k f) (quote l g) e = (k ∙ sym l, behind c d bs ds x y 34 f g e)
escapes-same c d bs ds x y (quote k f) (feed l g) e = absurd (let h = apart c d bs ds x y 34 110 f g e in omega (arith, h))
escapes-same c d bs ds x y (quote k f) (itself l q n g) e = absurd (mixed c d bs ds x y 34 f l g e)
escapes-same c d bs ds x y (feed k f) (slash l g) e = absurd (let h = apart c d bs ds x y 110 92 f g e in omega (arith, h))
escapes-same c d bs ds x y (feed k f) (quote l g) e = absurd (let h = apart c d bs ds x y 110 34 f g e in omega (arith, h))
escapes-same c d bs ds x y (feed k f) (feed l g) e = (k ∙ sym l, behind c d bs ds x y 110 f g e)
escapes-same c d bs ds x y (feed k f) (itself l q n g) e = absurd (mixed c d bs ds x y 110 f l g e)
escapes-same c d bs ds x y (itself k p n f) (slash l g) e = absurd (mixed d c ds bs y x 92 g k f (sym e))
escapes-same c d bs ds x y (itself k p n f) (quote l g) e = absurd (mixed d c ds bs y x 34 g k f (sym e))
escapes-same c d bs ds x y (itself k p n f) (feed l g) e = absurd (mixed d c ds bs y x 110 g k f (sym e))
escapes-same c d bs ds x y (itself k p n f) (itself l q m g) e = plain c d bs ds x y f g e

-- an escape determines its character, and where it ends
pub escape-same : (c d : ℕ) (x y : List ℕ) → escape c ++ x ≡ escape d ++ y → (c ≡ d) × (x ≡ y)
escape-same c d x y e = escapes-same c d (escape c) (escape d) x y (escape-is c) (escape-is d) e

-- no escape begins with a double quote
no-end : (d : ℕ) (ds x y : List ℕ) → Escape d ds → 34 ∷ x ≡ ds ++ y → ⊥
no-end d ds x y (slash l g) e = absurd (let h : 34 ≡ 92 = ap (λ l. get_or l 0 0) (e ∙ ap (λ l. l ++ y) g) in omega (arith, h))
no-end d ds x y (quote l g) e = absurd (let h : 34 ≡ 92 = ap (λ l. get_or l 0 0) (e ∙ ap (λ l. l ++ y) g) in omega (arith, h))
no-end d ds x y (feed l g) e = absurd (let h : 34 ≡ 92 = ap (λ l. get_or l 0 0) (e ∙ ap (λ l. l ++ y) g) in omega (arith, h))
no-end d ds x y (itself l q n g) e = q (sym (ap (λ l. get_or l 0 0) (e ∙ ap (λ l. l ++ y) g)))

-- a value ends at its double quote
pub escaped-same : (v w x y : List ℕ) → escaped v ++ 34 ∷ x ≡ escaped w ++ 34 ∷ y → (v ≡ w) × (x ≡ y)
escaped-same [] [] x y e = (refl, ap (drop 1) e)
escaped-same [] (d ∷ ds) x y e = absurd (no-end d (escape d) x (escaped ds ++ 34 ∷ y) (escape-is d) (e ∙ append_assoc (escape d) (escaped ds) (34 ∷ y)))
escaped-same (c ∷ cs) [] x y e = absurd (no-end c (escape c) y (escaped cs ++ 34 ∷ x) (escape-is c) (sym e ∙ append_assoc (escape c) (escaped cs) (34 ∷ x)))
escaped-same (c ∷ cs) (d ∷ ds) x y e =
    let first = escape-same c d (escaped cs ++ 34 ∷ x) (escaped ds ++ 34 ∷ y) (sym (append_assoc (escape c) (escaped cs) (34 ∷ x)) ∙ e ∙ append_assoc (escape d) (escaped ds) (34 ∷ y)) in
    let rest = escaped-same cs ds x y first.1 in
    (ap (λ z. z ∷ cs) first.0 ∙ ap (λ l. d ∷ l) rest.0, rest.1)

-- ---- one byte of a value, as it is read

pub starts-else : (c : ℕ) (bytes : List ℕ) → ((rest : List ℕ) → bytes ≡ c ∷ rest → ⊥) → StartsElse c bytes
starts-else c [] none = tt
starts-else c (x ∷ xs) none = λ e. none xs (ap (λ z. z ∷ xs) e)
