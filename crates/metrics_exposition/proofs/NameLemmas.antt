-- Names are as Prometheus allows, and no byte of a name ends it.
use Rattle.std.proofs.Common.{◌≡◌, ◌∙◌, ◌<◌, ◌≤◌, ℕ, Bool, true, false, ◌&&◌, ◌||◌, List, [], ◌∷◌, ◌++◌, map, chars, nat_eq, nat_le, refl, ap, arith}
use Rattle.std.specs.List.{AllByRecursion, list_all}
use Rattle.std.specs.Char.{is_ascii_digit, is_ascii_alphabetic}
use Rattle.std.specs.Int.{is_in_range}
use Rattle.std.specs.Str.{IsAscii}
use Rattle.std.proofs.lemmas.Bool.{leb-true, eqb-true}
use Rattle.std.proofs.lemmas.Str.{chars-IsAscii}
use Rattle.std.proofs.lemmas.Str.Ascii.{IsAscii-nil, IsAscii-cons}
use Rattle.metrics_names.specs.Names.{LabelParts}
use Rattle.metrics_exposition.specs.Names.{begins, goes_on, or_underscore, spelled, or_one, metric_name, label_name, is_name}
use Rattle.metrics_exposition.proofs.SameLemmas.{both-true}
use Rattle.metrics_exposition.proofs.PairLemmas.{each-append}

-- bytes that may be in a name
abbrev pub IsNamed : Bool → List ℕ → Type 0
IsNamed colons n = AllByRecursion (λ c. goes_on colons c ≡ true) n

both : (a b : Bool) → a ≡ true → b ≡ true → (a && b) ≡ true
both a b e f = ap (λ x. x && b) e ∙ f

or-first : (a b : Bool) → a ≡ true → (a || b) ≡ true
or-first a b e = ap (λ x. x || b) e

pub named-from : (colons : Bool) (n : List ℕ) → list_all (goes_on colons) n ≡ true → IsNamed colons n
named-from colons [] h = tt
named-from colons (c ∷ cs) h = let p = both-true (goes_on colons c) (list_all (goes_on colons) cs) h in (p.0, named-from colons cs p.1)

pub named-test : (colons : Bool) (n : List ℕ) → IsNamed colons n → list_all (goes_on colons) n ≡ true
named-test colons [] h = refl
named-test colons (c ∷ cs) h = both (goes_on colons c) (list_all (goes_on colons) cs) h.0 (named-test colons cs h.1)

-- a name's bytes
pub named : (colons : Bool) (n : List ℕ) → is_name colons n ≡ true → IsNamed colons n
named colons [] h = tt
named colons (c ∷ cs) h =
    let p = both-true (begins colons c) (list_all (goes_on colons) cs) h in
    (or-first (begins colons c) (is_ascii_digit c) p.0, named-from colons cs p.1)

-- a name with more bytes after it
pub name-more : (colons : Bool) (n m : List ℕ) → is_name colons n ≡ true → IsNamed colons m → is_name colons (n ++ m) ≡ true
name-more colons [] m h g = absurd (let e : false ≡ true = h in cc)
name-more colons (c ∷ cs) m h g =
    let p = both-true (begins colons c) (list_all (goes_on colons) cs) h in
    both (begins colons c) (list_all (goes_on colons) (cs ++ m)) p.0 (named-test colons (cs ++ m) (each-append (λ c. goes_on colons c ≡ true) cs m (named-from colons cs p.1) g))

-- ---- the names that are written

begins-or : (colons b : Bool) (c : ℕ) → begins colons c ≡ b → begins colons (or_underscore b c) ≡ true
begins-or colons true c e = e
begins-or true false c e = refl
begins-or false false c e = refl

goes-or : (colons b : Bool) (c : ℕ) → goes_on colons c ≡ b → goes_on colons (or_underscore b c) ≡ true
goes-or colons true c e = e
goes-or true false c e = refl
goes-or false false c e = refl

goes-all : (colons : Bool) (cs : List ℕ) → list_all (goes_on colons) (map (λ d. or_underscore (goes_on colons d) d) cs) ≡ true
goes-all colons [] = refl
goes-all colons (c ∷ cs) = both (goes_on colons (or_underscore (goes_on colons c) c)) (list_all (goes_on colons) (map (λ d. or_underscore (goes_on colons d) d) cs)) (goes-or colons (goes_on colons c) c refl) (goes-all colons cs)

spelled-name : (colons : Bool) (cs : List ℕ) → is_name colons (or_one (spelled colons cs)) ≡ true
spelled-name true [] = refl
spelled-name false [] = refl
spelled-name colons (c ∷ cs) = both (begins colons (or_underscore (begins colons c) c)) (list_all (goes_on colons) (map (λ d. or_underscore (goes_on colons d) d) cs)) (begins-or colons (begins colons c) c refl) (goes-all colons cs)

pub metric-name : (n : List ℕ) → is_name true (metric_name n) ≡ true
metric-name n = spelled-name true (chars n)

pub label-name : (n : List ℕ) → is_name false (label_name n) ≡ true
label-name n = spelled-name false (chars n)

-- labels whose names are allowed
abbrev pub AreKeyed : List LabelParts → Type 0
AreKeyed ls = AllByRecursion (λ l. is_name false l.0 ≡ true) ls

-- ---- names that stay as they are

either : (P : Type 0) (a b : Bool) → (a ≡ true → P) → (b ≡ true → P) → (a || b) ≡ true → P
either P true b f g h = f refl
either P false b f g h = g h

range : (low high c : ℕ) → is_in_range low high c ≡ true → c ≤ high
range low high c h = leb-true c high (both-true (nat_le low c) (nat_le c high) h).1

-- a name is ASCII
begins-small : (colons : Bool) (c : ℕ) → begins colons c ≡ true → c < 128
begins-small colons c =
    either (c < 128) (is_ascii_alphabetic c) (nat_eq c 95 || (colons && nat_eq c 58))
    (either (c < 128) (is_in_range 65 90 c) (is_in_range 97 122 c) (λ h. omega (arith, range 65 90 c h)) (λ h. omega (arith, range 97 122 c h)))
    (either (c < 128) (nat_eq c 95) (colons && nat_eq c 58) (λ h. omega (arith, eqb-true c 95 h)) (λ h. omega (arith, eqb-true c 58 (both-true colons (nat_eq c 58) h).1)))

small : (colons : Bool) (c : ℕ) → goes_on colons c ≡ true → c < 128
small colons c = either (c < 128) (begins colons c) (is_ascii_digit c) (begins-small colons c) (λ h. omega (arith, range 48 57 c h))

named-ascii : (colons : Bool) (n : List ℕ) → IsNamed colons n → IsAscii n
named-ascii colons [] h = IsAscii-nil
named-ascii colons (c ∷ cs) h = IsAscii-cons c cs (small colons c h.0) (named-ascii colons cs h.1)

same-rest : (colons : Bool) (cs : List ℕ) → IsNamed colons cs → map (λ d. or_underscore (goes_on colons d) d) cs ≡ cs
same-rest colons [] h = refl
same-rest colons (c ∷ cs) h = ap (λ b. or_underscore b c ∷ map (λ d. or_underscore (goes_on colons d) d) cs) h.0 ∙ ap (λ ds. c ∷ ds) (same-rest colons cs h.1)

same-name : (colons : Bool) (n : List ℕ) → is_name colons n ≡ true → or_one (spelled colons n) ≡ n
same-name colons [] h = absurd (let e : false ≡ true = h in cc)
same-name colons (c ∷ cs) h =
    let p = both-true (begins colons c) (list_all (goes_on colons) cs) h in
    ap (λ b. or_underscore b c ∷ map (λ d. or_underscore (goes_on colons d) d) cs) p.0 ∙ ap (λ ds. c ∷ ds) (same-rest colons cs (named-from colons cs p.1))

pub name-whole : (colons : Bool) (n : List ℕ) → is_name colons n ≡ true → or_one (spelled colons (chars n)) ≡ n
name-whole colons n h = ap (λ cs. or_one (spelled colons cs)) (chars-IsAscii n (named-ascii colons n (named colons n h))) ∙ same-name colons n h
