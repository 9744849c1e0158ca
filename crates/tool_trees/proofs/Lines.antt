-- Lines and their words: bytes spell at most one line, and how they are read.
use Rattle.std.proofs.Common.{◌≡◌, ◌≢◌, ℕ, ◌+◌, ◌<◌, ◌^◌, List, [], ◌∷◌, ◌++◌, Bool, true, false, codes, decimal, get_or, refl, sym, ap, ◌∙◌, arith, ◌≤◌, length, subst, append_assoc, append-nil, IsUtf8, drop}
use Rattle.std.specs.List.{AllByRecursion}
use Rattle.std.specs.Str.Parse.{AllDigits}
use Rattle.std.proofs.Math.Seq.{drop-append_seam}
use Rattle.std.proofs.lemmas.List.Elements.{recursion_from_All, All-from_recursion, All-append, All-cons, All-rest, All-drop, All-push}
use Rattle.std.proofs.lemmas.Fmt.{decimal_is_IsNumeral, decimal_injective}
use Rattle.std.proofs.lemmas.Str.Parse.{digit_from_value}
use Rattle.tool_grammar.specs.Cuts.{Lacks, StartsAt}
use Rattle.tool_grammar.specs.Grammar.{IsName}
use Rattle.tool_grammar.specs.Kinds.{kinds_word, HasKind}
use Rattle.metrics_names.specs.Names.{name_word}
use Rattle.tool_grammar.proofs.CallLemmas.{name_same}
use Rattle.tool_grammar.proofs.KindsLemmas.{kinds_same, lacks_kinds}
use Rattle.tool_grammar.proofs.WordsLemmas.{before_same, first_same, lacks_name, lacks_decimal}
use Rattle.tool_trees.specs.declared.tree_line.RouteWord.{RouteWord}
use Rattle.tool_trees.specs.declared.tree_line.TreeLine.{TreeLine}
use Rattle.tool_trees.specs.declared.tree_line.TreeLine.TheVariants as line
use Rattle.tool_trees.specs.Words.{words, flags_word, route_word, spelling, IsRoute, CanBeSpelled, IsNoLine}
use Rattle.std.proofs.lemmas.Grind.{flat_map-append}

-- ---- words

pub starts_words : {A : Type 0} (word : A → List ℕ) (xs : List A) → StartsAt 32 (words word xs)
starts_words word [] = tt
starts_words word (x ∷ xs) = refl

words_same : {A : Type 0} (Is : A → Type 0) (word : A → List ℕ) → ((x : A) → Is x → Lacks 32 (word x)) → ((x y : A) → Is x → Is y → word x ≡ word y → x ≡ y)
    → (xs ys : List A) → AllByRecursion Is xs → AllByRecursion Is ys → words word xs ≡ words word ys → xs ≡ ys
words_same Is word lacks same [] [] h g e = refl
words_same Is word lacks same [] (y ∷ ys) h g e = absurd (cc)
words_same Is word lacks same (x ∷ xs) [] h g e = absurd (cc)
words_same Is word lacks same (x ∷ xs) (y ∷ ys) h g e =
    let both = before_same 32 (word x) (word y) (words word xs) (words word ys) (lacks x h.0) (lacks y g.0) (starts_words word xs) (starts_words word ys) (cc) in
    cc (same x y h.0 g.0 both.0, words_same Is word lacks same xs ys h.1 g.1 both.1)

pub flags_same : (a b c d : Bool) (s t : List ℕ) → flags_word a b ++ s ≡ flags_word c d ++ t → (a ≡ c) × (b ≡ d) × (s ≡ t)
flags_same false false false false s t e = (refl, refl, cc)
flags_same false true false true s t e = (refl, refl, cc)
flags_same true false true false s t e = (refl, refl, cc)
flags_same true true true true s t e = (refl, refl, cc)
flags_same a b c d s t e = absurd (omega (arith, ap (λ xs. get_or xs 1 0) e, ap (λ xs. get_or xs 3 0) e))

-- ---- routes

digits_lack : (ds : List ℕ) → AllDigits 10 ds → AllByRecursion (λ x. x ≢ 47) ds
digits_lack [] h = tt
digits_lack (d ∷ ds) h = let range = digit_from_value d h.0 in ((λ e. absurd (omega (arith, range.0, range.1, e))), digits_lack ds h.1)

-- a number has no slash
slashless : (n : ℕ) → n < 2 ^ 64 → Lacks 47 (decimal n)
slashless n h = All-from_recursion _ (decimal n) (digits_lack (decimal n) (decimal_is_IsNumeral n h).0.1)

pub lacks_route : (r : RouteWord) → IsRoute r → Lacks 32 (route_word r)
lacks_route r h =
    let slash : 47 ≢ 32 = λ e. absurd (omega (arith, e)) in
    let others = All-append (λ x. x ≢ 32) (decimal r.target) (47 ∷ r.pattern) (lacks_decimal r.target h.1) (All-cons (λ x. x ≢ 32) 47 r.pattern slash h.3) in
    All-append (λ x. x ≢ 32) (kinds_word r.kinds) (47 ∷ (decimal r.target ++ 47 ∷ r.pattern)) (lacks_kinds 32 r.kinds (omega arith)) (All-cons (λ x. x ≢ 32) 47 (decimal r.target ++ 47 ∷ r.pattern) slash others)

-- a route is cut in one way
module _ (bytes kinds rest : List ℕ) (whole : bytes ≡ kinds ++ 47 ∷ rest) (before : Lacks 47 kinds) (r : RouteWord) (h : IsRoute r) (e : bytes ≡ route_word r) where
  pub first_part : (kinds ≡ kinds_word r.kinds) × (rest ≡ decimal r.target ++ 47 ∷ r.pattern)
  first_part = first_same 47 bytes kinds rest (kinds_word r.kinds) (decimal r.target ++ 47 ∷ r.pattern) before (lacks_kinds 47 r.kinds (omega arith)) whole e

  pub other_parts : (target pattern : List ℕ) → rest ≡ target ++ 47 ∷ pattern → Lacks 47 target → (target ≡ decimal r.target) × (pattern ≡ r.pattern)
  other_parts target pattern cut slash = first_same 47 rest target pattern (decimal r.target) r.pattern slash (slashless r.target h.1) cut first_part.1

route_same : (r s : RouteWord) → IsRoute r → IsRoute s → route_word r ≡ route_word s → r ≡ s
route_same r s h g e =
    let rest = decimal r.target ++ 47 ∷ r.pattern in
    let free = lacks_kinds 47 r.kinds (omega arith) in
    let parts = other_parts (route_word r) (kinds_word r.kinds) rest refl free s g e (decimal r.target) r.pattern refl (slashless r.target h.1) in
    is (kinds_same r.kinds s.kinds h.0 g.0 (first_part (route_word r) (kinds_word r.kinds) rest refl free s g e).0) (decimal_injective r.target s.target h.1 g.1 parts.0) parts.1
  where
    is : r.kinds ≡ s.kinds → r.target ≡ s.target → r.pattern ≡ s.pattern → r ≡ s
    is p q t =
        ap (λ k. record { kinds = k; target = r.target; pattern = r.pattern }) p ∙ ap (λ n. record { kinds = s.kinds; target = n; pattern = r.pattern }) q
        ∙ ap (λ w. record { kinds = s.kinds; target = s.target; pattern = w }) t

-- ---- lines

-- the first two bytes, added up: they tell lines apart
abbrev pub lead : List ℕ → ℕ
lead xs = get_or xs 0 0 + get_or xs 1 0

pub line_same : (s t : TreeLine) → CanBeSpelled s → CanBeSpelled t → spelling s ≡ spelling t → s ≡ t
line_same line.Book line.Book h g e = refl
line_same line.Noop line.Noop h g e = refl
line_same (line.Prefix p) (line.Prefix q) h g e = ap line.Prefix (name_same p q h g (cc))
line_same (line.Filter a b ps) (line.Filter c d qs) h g e =
    let parts = flags_same a b c d (words name_word ps) (words name_word qs) (cc) in
    cc (parts.0, parts.1, words_same IsName name_word lacks_name name_same ps qs h g parts.2)
line_same (line.Fanout m) (line.Fanout n) h g e = ap line.Fanout (decimal_injective m n (omega arith) (omega arith) (cc))
line_same (line.Router m rs) (line.Router n ss) h g e =
    let both = before_same 32 (decimal m) (decimal n) (words route_word rs) (words route_word ss) (lacks_decimal m h.0) (lacks_decimal n g.0) (starts_words route_word rs) (starts_words route_word ss) (cc) in
    cc (decimal_injective m n h.0 g.0 both.0, words_same IsRoute route_word lacks_route route_same rs ss h.1 g.1 both.1)
line_same line.End line.End h g e = refl
line_same s t h g e = absurd (omega (arith, ap lead e))

-- ---- words that are read

-- words begin with a space
pub no_words : {A : Type 0} (word : A → List ℕ) (rest : List ℕ) (xs : List A) → rest ≡ words word xs → (length rest ≡ 0 → ⊥) → ((others : List ℕ) → rest ≡ 32 ∷ others → ⊥) → ⊥
no_words word rest [] e some fails = some (ap length e)
no_words word rest (x ∷ xs) e some fails = fails (word x ++ words word xs) e

-- how far words are read
pub record WordsSoFar {A : Type 0} (Is : A → Type 0) (word : A → List ℕ) (bytes rest : List ℕ) (xs : List A) : Type 0 where
  pub are : AllByRecursion Is xs
  pub whole : bytes ≡ words word xs ++ rest
  pub left : (ys : List A) → AllByRecursion Is ys → bytes ≡ words word ys → (zs : List A) × AllByRecursion Is zs × (rest ≡ words word zs)

module _ {A : Type 0} (Is : A → Type 0) (word : A → List ℕ) (lacks : (x : A) → Is x → Lacks 32 (word x)) (rest others here after : List ℕ)
    (r : rest ≡ 32 ∷ others) (o : others ≡ here ++ after) (lw : Lacks 32 here) (sa : StartsAt 32 after) where
  -- what is left is the next word, and those after it
  pub next_of : (xs : List A) → AllByRecursion Is xs → rest ≡ words word xs → (x : A) × (ys : List A) × Is x × AllByRecursion Is ys × (here ≡ word x) × (after ≡ words word ys)
  next_of [] h e = absurd (cc)
  next_of (x ∷ xs) h e =
      let both = before_same 32 here (word x) after (words word xs) lw (lacks x h.0) sa (starts_words word xs) (cc) in
      (x, xs, h.0, h.1, both.0, both.1)

  pub words_more : (bytes : List ℕ) (xs : List A) (x : A) → WordsSoFar Is word bytes rest xs → Is x → here ≡ word x → WordsSoFar Is word bytes after (xs ++ x ∷ [])
  words_more bytes xs x so h e = record {
    are = recursion_from_All Is (xs ++ x ∷ []) (All-push Is xs x (All-from_recursion Is xs so.are) h);
    whole = rw (so.whole, r, o, e) (simp (flat_map-append, append_assoc, append-nil));
    left = λ ys g b. let (k, ks, i) = so.left ys g b in let (y, zs, is, are, here_is, after_is) = next_of k ks i in (zs, are, after_is);
  }

-- ---- routes that are read

lacks_behind : (c x : ℕ) (a b : List ℕ) → Lacks c (a ++ x ∷ b) → Lacks c b
lacks_behind c x a b h = All-rest (λ y. y ≢ c) x b (drop (length a) (a ++ x ∷ b)) (drop-append_seam a (x ∷ b)) (All-drop (λ y. y ≢ c) (length a) (a ++ x ∷ b) h)

-- what was read is a route
pub route_found : (word kinds rest target pattern p : List ℕ) (m n : ℕ) → word ≡ kinds ++ 47 ∷ rest → rest ≡ target ++ 47 ∷ pattern → Lacks 32 word → HasKind m → kinds ≡ kinds_word m → n < 2 ^ 64 → target ≡ decimal n →
    IsUtf8 pattern → p ≡ pattern → let r : RouteWord = record { kinds = m; target = n; pattern = p } in IsRoute r × (word ≡ route_word r)
route_found word kinds rest target pattern p m n whole parts lacks some ek lt et utf8 ep =
    let all : word ≡ kinds ++ 47 ∷ (target ++ 47 ∷ pattern) = cc in
    let same : word ≡ kinds_word m ++ 47 ∷ (decimal n ++ 47 ∷ p) = cc in
    let free : Lacks 32 pattern = lacks_behind 32 47 target pattern (lacks_behind 32 47 kinds (target ++ 47 ∷ pattern) (subst (Lacks 32) all lacks)) in
    ((some, lt, subst IsUtf8 (sym ep) utf8, subst (Lacks 32) (sym ep) free), same)

-- ---- lines that are read

pub no_flags : (bytes : List ℕ) → ((s : List ℕ) → bytes ≡ codes "cs links" ++ s → ⊥) → ((s : List ℕ) → bytes ≡ codes "cs dfa" ++ s → ⊥) → ((s : List ℕ) → bytes ≡ codes "ci links" ++ s → ⊥)
    → ((s : List ℕ) → bytes ≡ codes "ci dfa" ++ s → ⊥) → (fold table : Bool) (s : List ℕ) → bytes ≡ flags_word fold table ++ s → ⊥
no_flags bytes f g h k false false = f
no_flags bytes f g h k false true = g
no_flags bytes f g h k true false = h
no_flags bytes f g h k true true = k

pub no_prefix : (bytes : List ℕ) → ((p : List ℕ) → IsName p → bytes ≡ name_word p → ⊥) → IsNoLine (codes "prefix " ++ bytes)
no_prefix bytes fails (line.Prefix p) h = fails p h.0 (let e = h.1 in cc)
no_prefix bytes fails l h = absurd (omega (arith, ap lead h.1))

pub no_filter : (bytes : List ℕ) → ((fold table : Bool) (ps : List (List ℕ)) → AllByRecursion IsName ps → bytes ≡ flags_word fold table ++ words name_word ps → ⊥) → IsNoLine (codes "filter " ++ bytes)
no_filter bytes fails (line.Filter fold table ps) h = fails fold table ps h.0 (let e = h.1 in cc)
no_filter bytes fails l h = absurd (omega (arith, ap lead h.1))

pub no_fanout : (bytes : List ℕ) → ((n : ℕ) → n ≤ 65536 → bytes ≡ decimal n → ⊥) → IsNoLine (codes "fanout " ++ bytes)
no_fanout bytes fails (line.Fanout n) h = fails n h.0 (let e = h.1 in cc)
no_fanout bytes fails l h = absurd (omega (arith, ap lead h.1))

pub too_great : (bytes : List ℕ) (m : ℕ) → m < 2 ^ 64 → 65536 < m → bytes ≡ decimal m → IsNoLine (codes "fanout " ++ bytes)
too_great bytes m lt gt e = no_fanout bytes (λ n le g. absurd (omega (arith, decimal_injective m n lt (omega arith) (sym e ∙ g), gt, le)))

module _ (bytes word others : List ℕ) (whole : bytes ≡ word ++ others) (lacks : Lacks 32 word) (starts : StartsAt 32 others) where
  -- a word that something follows is no name
  pub no_two : (length others ≡ 0 → ⊥) → IsNoLine (codes "prefix " ++ bytes)
  no_two some = no_prefix bytes (λ p h g. some (ap length (before_same 32 word (name_word p) others [] lacks (lacks_name p h) starts tt (sym whole ∙ g ∙ sym (append-nil (name_word p)))).1))

  pub no_router : ((n : ℕ) (rs : List RouteWord) → n < 2 ^ 64 → AllByRecursion IsRoute rs → word ≡ decimal n → others ≡ words route_word rs → ⊥) → IsNoLine (codes "router " ++ bytes)
  no_router fails (line.Router n rs) h =
      let all : bytes ≡ decimal n ++ words route_word rs = (let e = h.1 in cc) in
      let both = before_same 32 word (decimal n) others (words route_word rs) lacks (lacks_decimal n h.0.0) starts (starts_words route_word rs) (sym whole ∙ all) in
      fails n rs h.0.0 h.0.1 both.0 both.1
  no_router fails l h = absurd (omega (arith, ap lead h.1))

pub no_line : (bytes : List ℕ) → ((s : List ℕ) → bytes ≡ codes "prefix " ++ s → ⊥) → ((s : List ℕ) → bytes ≡ codes "filter " ++ s → ⊥) → ((s : List ℕ) → bytes ≡ codes "fanout " ++ s → ⊥)
    → ((s : List ℕ) → bytes ≡ codes "router " ++ s → ⊥) → bytes ≢ codes "book" → bytes ≢ codes "noop" → bytes ≢ codes "end" → IsNoLine bytes
no_line bytes a b c d e f g line.Book h = e h.1
no_line bytes a b c d e f g line.Noop h = f h.1
no_line bytes a b c d e f g line.End h = g h.1
no_line bytes a b c d e f g (line.Prefix p) h = a (name_word p) h.1
no_line bytes a b c d e f g (line.Filter fold table ps) h = b (flags_word fold table ++ words name_word ps) h.1
no_line bytes a b c d e f g (line.Fanout n) h = c (decimal n) h.1
no_line bytes a b c d e f g (line.Router n rs) h = d (decimal n ++ words route_word rs) h.1
