-- The text before a sample's value determines its name and its labels.
use Rattle.std.proofs.Common.{◌≡◌, ◌≢◌, ◌∙◌, ℕ, Bool, true, false, cond, List, [], ◌∷◌, ◌++◌, codes, chars, drop, get_or, nat_eq, append_assoc, refl, ap, sym, arith}
use Rattle.std.specs.Prelude.{encode_utf8, flat_map, encode_utf8_all}
use Rattle.std.specs.List.{AllByRecursion}
use Rattle.std.specs.Str.{IsUtf8}
use Rattle.std.proofs.lemmas.Bool.{eqb-true, eq-eqb}
use Rattle.std.proofs.lemmas.Str.{encode_same, encode_ascii, encodes-chars}
use Rattle.std.proofs.lemmas.List.{append_cancel_right}
use Rattle.metrics_names.specs.Names.{LabelParts}
use Rattle.metrics_exposition.specs.Names.{goes_on, is_name, escape, escaped}
use Rattle.metrics_exposition.specs.Samples.{Sample, label_text, joined, labels_text, sample_line, series_text}
use Rattle.metrics_exposition.specs.Labels.{AreTexts}
use Rattle.metrics_exposition.specs.Reading.{CanBeRead}
use Rattle.metrics_exposition.proofs.NameLemmas.{named, AreKeyed}

-- ---- names

-- what comes before the first byte that is none of a name
upto : (p : ℕ → Bool) (n m : List ℕ) (a b : ℕ) (x y : List ℕ) → AllByRecursion (λ c. p c ≡ true) n → AllByRecursion (λ c. p c ≡ true) m → p a ≡ false → p b ≡ false
    → n ++ a ∷ x ≡ m ++ b ∷ y → (n ≡ m) × (a ∷ x ≡ b ∷ y)
upto p [] [] a b x y hn hm ha hb e = (refl, e)
upto p [] (d ∷ m) a b x y hn hm ha hb e = absurd (let g : true ≡ false = sym hm.0 ∙ ap (λ l. p (get_or l 0 a)) (sym e) ∙ ha in cc)
upto p (c ∷ n) [] a b x y hn hm ha hb e = absurd (let g : true ≡ false = sym hn.0 ∙ ap (λ l. p (get_or l 0 a)) e ∙ hb in cc)
upto p (c ∷ n) (d ∷ m) a b x y hn hm ha hb e =
    let rest = upto p n m a b x y hn.1 hm.1 ha hb (ap (drop 1) e) in
    (ap (λ z. z ∷ n) (ap (λ l. get_or l 0 c) e) ∙ ap (λ l. d ∷ l) rest.0, rest.1)

-- ---- values

-- a character's escape
data Escape (c : ℕ) (bs : List ℕ) : Type 0 where
  slash : c ≡ 92 → bs ≡ 92 ∷ 92 ∷ [] → Escape c bs
  quote : c ≡ 34 → bs ≡ 92 ∷ 34 ∷ [] → Escape c bs
  feed : c ≡ 10 → bs ≡ 92 ∷ 110 ∷ [] → Escape c bs
  itself : c ≢ 92 → c ≢ 34 → bs ≡ encode_utf8 c → Escape c bs

other : (c k : ℕ) → nat_eq c k ≡ false → c ≢ k
other c k h e = absurd (let g : true ≡ false = sym (eq-eqb c k e) ∙ h in cc)

-- what is tested third, and second
abbrev third : ℕ → Bool → List ℕ
third c z = cond z (codes "\\n") (encode_utf8 c)

abbrev second : ℕ → Bool → Bool → List ℕ
second c y z = cond y (codes "\\\"") (third c z)

by-feed : (c : ℕ) (z : Bool) → nat_eq c 10 ≡ z → nat_eq c 92 ≡ false → nat_eq c 34 ≡ false → Escape c (third c z)
by-feed c true e s q = feed (eqb-true c 10 e) refl
by-feed c false e s q = itself (other c 92 s) (other c 34 q) refl

by-quote : (c : ℕ) (y : Bool) → nat_eq c 34 ≡ y → nat_eq c 92 ≡ false → Escape c (second c y (nat_eq c 10))
by-quote c true e s = quote (eqb-true c 34 e) refl
by-quote c false e s = by-feed c (nat_eq c 10) refl s e

by-slash : (c : ℕ) (x : Bool) → nat_eq c 92 ≡ x → Escape c (cond x (codes "\\\\") (second c (nat_eq c 34) (nat_eq c 10)))
by-slash c true e = slash (eqb-true c 92 e) refl
by-slash c false e = by-quote c (nat_eq c 34) refl e

escape-is : (c : ℕ) → Escape c (escape c)
escape-is c = by-slash c (nat_eq c 92) refl

-- a character that is written as it is begins with no other ASCII byte
not-first : (k c : ℕ) (x y : List ℕ) → encode_utf8 k ≡ k ∷ [] → c ≢ k → k ∷ x ≡ encode_utf8 c ++ y → ⊥
not-first k c x y one h e = h (sym (encode_same k c x y (ap (λ l. l ++ x) one ∙ e)).0)

module _ (c d : ℕ) (bs ds x y : List ℕ) where
  -- the second bytes differ
  apart : (m n : ℕ) → bs ≡ 92 ∷ m ∷ [] → ds ≡ 92 ∷ n ∷ [] → bs ++ x ≡ ds ++ y → m ≡ n
  apart m n f g e = ap (λ l. get_or l 1 0) (sym (ap (λ l. l ++ x) f) ∙ e ∙ ap (λ l. l ++ y) g)

  behind : (m : ℕ) → bs ≡ 92 ∷ m ∷ [] → ds ≡ 92 ∷ m ∷ [] → bs ++ x ≡ ds ++ y → x ≡ y
  behind m f g e = ap (drop 2) (sym (ap (λ l. l ++ x) f) ∙ e ∙ ap (λ l. l ++ y) g)

  mixed : (m : ℕ) → bs ≡ 92 ∷ m ∷ [] → d ≢ 92 → ds ≡ encode_utf8 d → bs ++ x ≡ ds ++ y → ⊥
  mixed m f h g e = not-first 92 d (m ∷ x) y (encode_ascii 92 (omega arith)) h (sym (ap (λ l. l ++ x) f) ∙ e ∙ ap (λ l. l ++ y) g)

same-escape : (c d : ℕ) (bs ds x y : List ℕ) → Escape c bs → Escape d ds → bs ++ x ≡ ds ++ y → (c ≡ d) × (x ≡ y)
same-escape c d bs ds x y (slash k f) (slash l g) e = (k ∙ sym l, behind c d bs ds x y 92 f g e)
same-escape c d bs ds x y (slash k f) (quote l g) e = absurd (let h = apart c d bs ds x y 92 34 f g e in omega (arith, h))
same-escape c d bs ds x y (slash k f) (feed l g) e = absurd (let h = apart c d bs ds x y 92 110 f g e in omega (arith, h))
same-escape c d bs ds x y (slash k f) (itself l q g) e = absurd (mixed c d bs ds x y 92 f l g e)
same-escape c d bs ds x y (quote k f) (slash l g) e = absurd (let h = apart c d bs ds x y 34 92 f g e in omega (arith, h))
same-escape c d bs ds x y (quote k f) (quote l g) e = (k ∙ sym l, behind c d bs ds x y 34 f g e)
same-escape c d bs ds x y (quote k f) (feed l g) e = absurd (let h = apart c d bs ds x y 34 110 f g e in omega (arith, h))
same-escape c d bs ds x y (quote k f) (itself l q g) e = absurd (mixed c d bs ds x y 34 f l g e)
same-escape c d bs ds x y (feed k f) (slash l g) e = absurd (let h = apart c d bs ds x y 110 92 f g e in omega (arith, h))
same-escape c d bs ds x y (feed k f) (quote l g) e = absurd (let h = apart c d bs ds x y 110 34 f g e in omega (arith, h))
same-escape c d bs ds x y (feed k f) (feed l g) e = (k ∙ sym l, behind c d bs ds x y 110 f g e)
same-escape c d bs ds x y (feed k f) (itself l q g) e = absurd (mixed c d bs ds x y 110 f l g e)
same-escape c d bs ds x y (itself k p f) (slash l g) e = absurd (mixed d c ds bs y x 92 g k f (sym e))
same-escape c d bs ds x y (itself k p f) (quote l g) e = absurd (mixed d c ds bs y x 34 g k f (sym e))
same-escape c d bs ds x y (itself k p f) (feed l g) e = absurd (mixed d c ds bs y x 110 g k f (sym e))
same-escape c d bs ds x y (itself k p f) (itself l q g) e = encode_same c d x y (sym (ap (λ l. l ++ x) f) ∙ e ∙ ap (λ l. l ++ y) g)

-- no escape begins with a double quote
no-end : (d : ℕ) (ds x y : List ℕ) → Escape d ds → 34 ∷ x ≡ ds ++ y → ⊥
no-end d ds x y (slash l g) e = absurd (let h : 34 ≡ 92 = ap (λ l. get_or l 0 0) (e ∙ ap (λ l. l ++ y) g) in omega (arith, h))
no-end d ds x y (quote l g) e = absurd (let h : 34 ≡ 92 = ap (λ l. get_or l 0 0) (e ∙ ap (λ l. l ++ y) g) in omega (arith, h))
no-end d ds x y (feed l g) e = absurd (let h : 34 ≡ 92 = ap (λ l. get_or l 0 0) (e ∙ ap (λ l. l ++ y) g) in omega (arith, h))
no-end d ds x y (itself l q g) e = not-first 34 d x y (encode_ascii 34 (omega arith)) q (e ∙ ap (λ l. l ++ y) g)

-- a value ends at its double quote
same-escapes : (cs ds x y : List ℕ) → flat_map escape cs ++ 34 ∷ x ≡ flat_map escape ds ++ 34 ∷ y → (cs ≡ ds) × (x ≡ y)
same-escapes [] [] x y e = (refl, ap (drop 1) e)
same-escapes [] (d ∷ ds) x y e = absurd (no-end d (escape d) x (flat_map escape ds ++ 34 ∷ y) (escape-is d) (e ∙ append_assoc (escape d) (flat_map escape ds) (34 ∷ y)))
same-escapes (c ∷ cs) [] x y e = absurd (no-end c (escape c) y (flat_map escape cs ++ 34 ∷ x) (escape-is c) (sym e ∙ append_assoc (escape c) (flat_map escape cs) (34 ∷ x)))
same-escapes (c ∷ cs) (d ∷ ds) x y e =
    let first = same-escape c d (escape c) (escape d) (flat_map escape cs ++ 34 ∷ x) (flat_map escape ds ++ 34 ∷ y) (escape-is c) (escape-is d) (sym (append_assoc (escape c) (flat_map escape cs) (34 ∷ x)) ∙ e ∙ append_assoc (escape d) (flat_map escape ds) (34 ∷ y)) in
    let rest = same-escapes cs ds x y first.1 in
    (ap (λ z. z ∷ cs) first.0 ∙ ap (λ l. d ∷ l) rest.0, rest.1)

same-value : (v w x y : List ℕ) → IsUtf8 v → IsUtf8 w → escaped v ++ 34 ∷ x ≡ escaped w ++ 34 ∷ y → (v ≡ w) × (x ≡ y)
same-value v w x y hv hw e =
    let h = same-escapes (chars v) (chars w) x y e in
    (sym (encodes-chars v hv) ∙ ap encode_utf8_all h.0 ∙ encodes-chars w hw, h.1)

-- ---- labels

label-parts : (n v x : List ℕ) → label_text (n, v) ++ x ≡ n ++ 61 ∷ 34 ∷ (escaped v ++ 34 ∷ x)
label-parts n v x = append_assoc n _ x ∙ ap (λ z. n ++ 61 ∷ 34 ∷ z) (append_assoc (escaped v) (34 ∷ []) x)

same-label : (l k : LabelParts) (x y : List ℕ) → is_name false l.0 ≡ true → is_name false k.0 ≡ true → IsUtf8 l.1 → IsUtf8 k.1 → label_text l ++ x ≡ label_text k ++ y → (l ≡ k) × (x ≡ y)
same-label (n, v) (m, w) x y hn hm hv hw e =
    let first = upto (goes_on false) n m 61 61 _ _ (named false n hn) (named false m hm) refl refl (sym (label-parts n v x) ∙ e ∙ label-parts m w y) in
    let rest = same-value v w x y hv hw (ap (drop 2) first.1) in
    ((λ i. (first.0 i, rest.0 i)), rest.1)

abbrev more_labels : List LabelParts → List ℕ
more_labels ls = flat_map (λ m. 44 ∷ label_text m) ls

same-more : (ls ks : List LabelParts) (x y : List ℕ) → AreKeyed ls → AreKeyed ks → AreTexts ls → AreTexts ks → more_labels ls ++ 125 ∷ x ≡ more_labels ks ++ 125 ∷ y → (ls ≡ ks) × (x ≡ y)
same-more [] [] x y hl hk tl tk e = (refl, ap (drop 1) e)
same-more [] (k ∷ ks) x y hl hk tl tk e = absurd (let g : 125 ≡ 44 = ap (λ l. get_or l 0 0) e in omega (arith, g))
same-more (l ∷ ls) [] x y hl hk tl tk e = absurd (let g : 44 ≡ 125 = ap (λ l. get_or l 0 0) e in omega (arith, g))
same-more (l ∷ ls) (k ∷ ks) x y hl hk tl tk e =
    let behind = ap (drop 1) e in
    let first = same-label l k (more_labels ls ++ 125 ∷ x) (more_labels ks ++ 125 ∷ y) hl.0 hk.0 tl.0 tk.0 (sym (append_assoc (label_text l) (more_labels ls) (125 ∷ x)) ∙ behind ∙ append_assoc (label_text k) (more_labels ks) (125 ∷ y)) in
    let rest = same-more ls ks x y hl.1 hk.1 tl.1 tk.1 first.1 in
    (ap (λ z. z ∷ ls) first.0 ∙ ap (λ z. k ∷ z) rest.0, rest.1)

labels-parts : (l : LabelParts) (ls : List LabelParts) (x : List ℕ) → labels_text (l ∷ ls) ++ x ≡ 123 ∷ (label_text l ++ (more_labels ls ++ 125 ∷ x))
labels-parts l ls x = ap (λ z. 123 ∷ z) (append_assoc (joined (l ∷ ls)) (125 ∷ []) x ∙ append_assoc (label_text l) (more_labels ls) (125 ∷ x))

-- labels end at a space
same-labels : (ls ks : List LabelParts) (x y : List ℕ) → AreKeyed ls → AreKeyed ks → AreTexts ls → AreTexts ks → labels_text ls ++ 32 ∷ x ≡ labels_text ks ++ 32 ∷ y → (ls ≡ ks) × (x ≡ y)
same-labels [] [] x y hl hk tl tk e = (refl, ap (drop 1) e)
same-labels [] (k ∷ ks) x y hl hk tl tk e = absurd (let g : 32 ≡ 123 = ap (λ l. get_or l 0 0) e in omega (arith, g))
same-labels (l ∷ ls) [] x y hl hk tl tk e = absurd (let g : 123 ≡ 32 = ap (λ l. get_or l 0 0) e in omega (arith, g))
same-labels (l ∷ ls) (k ∷ ks) x y hl hk tl tk e =
    let behind = ap (drop 1) (sym (labels-parts l ls (32 ∷ x)) ∙ e ∙ labels-parts k ks (32 ∷ y)) in
    let first = same-label l k (more_labels ls ++ 125 ∷ 32 ∷ x) (more_labels ks ++ 125 ∷ 32 ∷ y) hl.0 hk.0 tl.0 tk.0 behind in
    let rest = same-more ls ks (32 ∷ x) (32 ∷ y) hl.1 hk.1 tl.1 tk.1 first.1 in
    (ap (λ z. z ∷ ls) first.0 ∙ ap (λ z. k ∷ z) rest.0, ap (drop 1) rest.1)

-- ---- the line of a sample

-- the byte after a name: a brace or a space
abbrev head-of : List LabelParts → ℕ
head-of [] = 32
head-of (l ∷ ls) = 123

abbrev tail-of : List LabelParts → List ℕ → List ℕ
tail-of ls x = drop 1 (labels_text ls ++ 32 ∷ x)

parts-of : (ls : List LabelParts) (x : List ℕ) → labels_text ls ++ 32 ∷ x ≡ head-of ls ∷ tail-of ls x
parts-of [] x = refl
parts-of (l ∷ ls) x = refl

no-name : (ls : List LabelParts) → goes_on true (head-of ls) ≡ false
no-name [] = refl
no-name (l ∷ ls) = refl

pub same-line : (n m : List ℕ) (ls ks : List LabelParts) (x y : List ℕ) → is_name true n ≡ true → is_name true m ≡ true → AreKeyed ls → AreKeyed ks → AreTexts ls → AreTexts ks
    → n ++ (labels_text ls ++ 32 ∷ x) ≡ m ++ (labels_text ks ++ 32 ∷ y) → (n ≡ m) × ((ls ≡ ks) × (x ≡ y))
same-line n m ls ks x y hn hm hl hk tl tk e =
    let first = upto (goes_on true) n m (head-of ls) (head-of ks) (tail-of ls x) (tail-of ks y) (named true n hn) (named true m hm) (no-name ls) (no-name ks)
    (sym (ap (λ z. n ++ z) (parts-of ls x)) ∙ e ∙ ap (λ z. m ++ z) (parts-of ks y)) in
    (first.0, same-labels ls ks x y hl hk tl tk (parts-of ls x ∙ first.1 ∙ sym (parts-of ks y)))

pub read-back : (s t : Sample) → CanBeRead s → CanBeRead t → (x y : List ℕ) → series_text s ++ 32 ∷ x ≡ series_text t ++ 32 ∷ y → (s.name ≡ t.name) × ((s.labels ≡ t.labels) × (x ≡ y))
read-back s t hs ht x y e =
    same-line s.name t.name s.labels t.labels x y hs.names.name ht.names.name hs.names.keys ht.names.keys hs.texts ht.texts
    (sym (append_assoc s.name (labels_text s.labels) (32 ∷ x)) ∙ e ∙ append_assoc t.name (labels_text t.labels) (32 ∷ y))

-- and the line determines the sample
pub same-sample : (s t : Sample) → CanBeRead s → CanBeRead t → sample_line s ≡ sample_line t → s ≡ t
same-sample s t hs ht e =
    let h = same-line s.name t.name s.labels t.labels (s.value ++ 10 ∷ []) (t.value ++ 10 ∷ []) hs.names.name ht.names.name hs.names.keys ht.names.keys hs.texts ht.texts e in
    let value = append_cancel_right s.value t.value (10 ∷ []) h.1.1 in
    ap (λ n. record { name = n; labels = s.labels; value = s.value }) h.0 ∙ ap (λ l. record { name = t.name; labels = l; value = s.value }) h.1.0 ∙ ap (λ v. record { name = t.name; labels = t.labels; value = v }) value
