-- No line feed is in a name, a label's value or a number.
use Rattle.std.proofs.Common.{◌≡◌, ◌≢◌, ◌∙◌, ◌<◌, ◌+◌, ◌/◌, ◌%◌, ℕ, ℤ, pos, negsuc, zero, suc, Bool, true, false, ◌||◌, List, [], ◌∷◌, ◌++◌, codes, chars, length, get_or, append-nil, nat_eq, nat_lt, refl, ap, sym, arith}
use Rattle.std.specs.Prelude.{encode_utf8, flat_map, ◌==◌}
use Rattle.std.specs.List.{AllByRecursion, list_any}
use Rattle.std.specs.Fmt.{decimal, digits, digits_onto, digit_glyph}
use Rattle.std.proofs.lemmas.Bool.{cond_both, eq-eqb}
use Rattle.std.proofs.lemmas.Str.{inside_one}
use Rattle.std.proofs.lemmas.Grind.{get_or_default_zero}
use Rattle.metrics_names.specs.Names.{LabelParts}
use Rattle.metrics_exposition.specs.Names.{goes_on, is_name, escape, escaped, help_escape, help_escaped}
use Rattle.metrics_exposition.specs.Numbers.{pointed, unsigned, number}
use Rattle.metrics_exposition.specs.Samples.{label_text, joined, labels_text}
use Rattle.metrics_exposition.proofs.PairLemmas.{each-map, each-append, each-places}
use Rattle.metrics_exposition.proofs.NameLemmas.{named, AreKeyed}

abbrev pub HasNoFeed : List ℕ → Type 0
HasNoFeed bs = AllByRecursion (λ c. c ≢ 10) bs

pub join : (xs ys : List ℕ) → HasNoFeed xs → HasNoFeed ys → HasNoFeed (xs ++ ys)
join xs ys h g = each-append (λ c. c ≢ 10) xs ys h g

other : (c : ℕ) → nat_eq c 10 ≡ false → c ≢ 10
other c h e = absurd (let g : true ≡ false = sym (eq-eqb c 10 e) ∙ h in cc)

or-false : (a b : Bool) → (a || b) ≡ false → (a ≡ false) × (b ≡ false)
or-false true b e = absurd (let g : true ≡ false = e in cc)
or-false false b e = (refl, e)

-- of bytes that are written out
pub plain : (bs : List ℕ) → list_any (λ c. nat_eq c 10) bs ≡ false → HasNoFeed bs
plain [] h = tt
plain (b ∷ bs) h = let p = or-false (nat_eq b 10) (list_any (λ c. nat_eq c 10) bs) h in (other b p.0, plain bs p.1)

no-feed-on : (colons : Bool) (c : ℕ) → goes_on colons c ≡ true → c ≢ 10
no-feed-on true c h e = absurd (let g : true ≡ false = sym h ∙ ap (goes_on true) e in cc)
no-feed-on false c h e = absurd (let g : true ≡ false = sym h ∙ ap (goes_on false) e in cc)

pub name-plain : (colons : Bool) (n : List ℕ) → is_name colons n ≡ true → HasNoFeed n
name-plain colons n h = each-map (λ c. goes_on colons c ≡ true) (λ c. c ≢ 10) (no-feed-on colons) n (named colons n h)

-- ---- a label's value

inside : (c j d : ℕ) → j < length (encode_utf8 c) → get_or (encode_utf8 c) j d ≡ 10 → c ≡ 10
inside c j d small e =
    let bytes = encode_utf8 c in
    let g : get_or bytes j 0 ≡ 10 = sym (get_or_default_zero bytes j d small) ∙ e in
    inside_one c [] bytes j (sym (append-nil bytes)) small (omega (arith, g)) ∙ g

encoded-plain : (c : ℕ) → c ≢ 10 → HasNoFeed (encode_utf8 c)
encoded-plain c h = each-places (λ b. b ≢ 10) (encode_utf8 c) (λ j d small e. h (inside c j d small e))

escape-plain : (c : ℕ) → HasNoFeed (escape c)
escape-plain c =
    cond_both (nat_eq c 92) (codes "\\\\") _ HasNoFeed (λ _. plain (codes "\\\\") refl)
    (λ _. cond_both (nat_eq c 34) (codes "\\\"") _ HasNoFeed (λ _. plain (codes "\\\"") refl)
    (λ _. cond_both (nat_eq c 10) (codes "\\n") (encode_utf8 c) HasNoFeed (λ _. plain (codes "\\n") refl) (λ e. encoded-plain c (other c e))))

escaped-plain : (v : List ℕ) → HasNoFeed (escaped v)
escaped-plain v = all (chars v)
  where
    all : (cs : List ℕ) → HasNoFeed (flat_map escape cs)
    all [] = tt
    all (c ∷ cs) = join (escape c) (flat_map escape cs) (escape-plain c) (all cs)

-- ---- a description

help-escape-plain : (c : ℕ) → HasNoFeed (help_escape c)
help-escape-plain c =
    cond_both (nat_eq c 92) (codes "\\\\") _ HasNoFeed (λ _. plain (codes "\\\\") refl)
    (λ _. cond_both (nat_eq c 10) (codes "\\n") (encode_utf8 c) HasNoFeed (λ _. plain (codes "\\n") refl) (λ e. encoded-plain c (other c e)))

pub help-plain : (v : List ℕ) → HasNoFeed (help_escaped v)
help-plain v = all (chars v)
  where
    all : (cs : List ℕ) → HasNoFeed (flat_map help_escape cs)
    all [] = tt
    all (c ∷ cs) = join (help_escape c) (flat_map help_escape cs) (help-escape-plain c) (all cs)

-- ---- labels

label-plain : (l : LabelParts) → is_name false l.0 ≡ true → HasNoFeed (label_text l)
label-plain l h = join l.0 _ (name-plain false l.0 h) (join (codes "=\"") _ (plain (codes "=\"") refl) (join (escaped l.1) (codes "\"") (escaped-plain l.1) (plain (codes "\"") refl)))

more-plain : (ls : List LabelParts) → AreKeyed ls → HasNoFeed (flat_map (λ m. 44 ∷ label_text m) ls)
more-plain [] h = tt
more-plain (l ∷ ls) h = join (44 ∷ label_text l) (flat_map (λ m. 44 ∷ label_text m) ls) (other 44 refl, label-plain l h.0) (more-plain ls h.1)

pub labels-plain : (ls : List LabelParts) → AreKeyed ls → HasNoFeed (labels_text ls)
labels-plain [] h = tt
labels-plain (l ∷ ls) h =
    (other 123 refl, join (joined (l ∷ ls)) (codes "}") (join (label_text l) (flat_map (λ m. 44 ∷ label_text m) ls) (label-plain l h.0) (more-plain ls h.1)) (plain (codes "}") refl))

-- ---- numbers

glyph-plain : (d : ℕ) → digit_glyph false d ≢ 10
glyph-plain d = cond_both (nat_lt d 10) (48 + d) (87 + d) (λ c. c ≢ 10) (λ _ e. absurd (omega (arith, e))) (λ _ e. absurd (omega (arith, e)))

digits-plain : (k n : ℕ) (acc : List ℕ) → HasNoFeed acc → HasNoFeed (digits_onto k 10 false n acc)
digits-plain zero n acc h = h
digits-plain (suc k) n acc h =
    cond_both (n / 10 == 0) (digit_glyph false (n % 10) ∷ acc) (digits_onto k 10 false (n / 10) (digit_glyph false (n % 10) ∷ acc)) HasNoFeed
    (λ _. (glyph-plain (n % 10), h))
    (λ _. digits-plain k (n / 10) (digit_glyph false (n % 10) ∷ acc) (glyph-plain (n % 10), h))

pub decimal-plain : (n : ℕ) → HasNoFeed (decimal n)
unfolding digits
decimal-plain n = digits-plain 64 n [] tt

pointed-plain : (places n : ℕ) → HasNoFeed (pointed places n)
pointed-plain zero n = join (decimal n) (46 ∷ []) (decimal-plain n) (plain (46 ∷ []) refl)
pointed-plain (suc places) n = join (pointed places (n / 10)) ((48 + n % 10) ∷ []) (pointed-plain places (n / 10)) ((λ e. absurd (omega (arith, e))), tt)

pub unsigned-plain : (places n : ℕ) → HasNoFeed (unsigned places n)
unsigned-plain zero n = decimal-plain n
unsigned-plain (suc places) n =
    cond_both (nat_eq (n % 10) 0) (unsigned places (n / 10)) (pointed (suc places) n) HasNoFeed (λ _. unsigned-plain places (n / 10)) (λ _. pointed-plain (suc places) n)

pub number-plain : (places : ℕ) (z : ℤ) → HasNoFeed (number places z)
number-plain places (pos n) = unsigned-plain places n
number-plain places (negsuc n) = (other 45 refl, unsigned-plain places (suc n))
