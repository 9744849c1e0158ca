-- Words, and the one place where a line is cut.
use Rattle.std.proofs.Common.{◌≡◌, ◌≢◌, ℕ, zero, suc, ◌<◌, ◌≤◌, ◌^◌, List, [], ◌∷◌, ◌++◌, length, Option, Some, Bool, true, not, ◌&&◌, eqb, refl, sym, ap, subst, ◌∙◌, arith, append_assoc, take, decimal, IsUtf8}
use Rattle.std.specs.List.{AllByRecursion}
use Rattle.std.specs.Str.Parse.{AllDigits}
use Rattle.std.proofs.lemmas.List.Elements.{recursion_from_All, All-from_recursion, All-append}
use Rattle.std.proofs.lemmas.Fmt.{decimal_is_IsNumeral}
use Rattle.std.proofs.lemmas.Str.Parse.{digit_from_value}
use Rattle.metrics_names.specs.declared.kind.MetricKind.{MetricKind}
use Rattle.metrics_names.specs.declared.kind.MetricKind.TheVariants.{Counter}
use Rattle.metrics_names.specs.declared.common.Unit.{Unit as Measure}
use Rattle.metrics_names.specs.declared.common.Unit.TheVariants.{Count}
use Rattle.metrics.specs.declared.handles.Update.{Update}
use Rattle.metrics.specs.declared.handles.Update.TheVariants.{Increment}
use Rattle.metrics_names.specs.Names.{KeyParts, name_word, label_word, label_words, kind_word}
use Rattle.tool_grammar.specs.Cuts.{Lacks, StartsAt}
use Rattle.tool_grammar.specs.Grammar.{unit_word, update_word, IsName, IsLabel, AreLabels}

-- ---- cuts

abbrev LacksByRecursion : ℕ → List ℕ → Type 0
LacksByRecursion c bytes = AllByRecursion (λ x. x ≢ c) bytes

cut_same : (c : ℕ) (a v s t : List ℕ) → LacksByRecursion c a → LacksByRecursion c v → StartsAt c s → StartsAt c t → a ++ s ≡ v ++ t → (a ≡ v) × (s ≡ t)
cut_same c [] [] s t la lv hs ht e = (refl, e)
cut_same c [] (y ∷ v) s t la lv hs ht e = absurd (lv.0 (subst (StartsAt c) e hs))
cut_same c (x ∷ a) [] s t la lv hs ht e = absurd (la.0 (subst (StartsAt c) (sym e) ht))
cut_same c (x ∷ a) (y ∷ v) s t la lv hs ht e =
    let head : x ≡ y = cc in
    let tail : a ++ s ≡ v ++ t = cc in
    let rest = cut_same c a v s t la.1 lv.1 hs ht tail in
    (ap (λ z. z ∷ a) head ∙ ap (λ zs. y ∷ zs) rest.0, rest.1)

-- a line is cut before a byte in one way
pub before_same : (c : ℕ) (a v s t : List ℕ) → Lacks c a → Lacks c v → StartsAt c s → StartsAt c t → a ++ s ≡ v ++ t → (a ≡ v) × (s ≡ t)
before_same c a v s t la lv hs ht e = cut_same c a v s t (recursion_from_All _ a la) (recursion_from_All _ v lv) hs ht e

-- a line is cut at a byte in one way
pub first_same : (c : ℕ) (bytes a s v t : List ℕ) → Lacks c a → Lacks c v → bytes ≡ a ++ c ∷ s → bytes ≡ v ++ c ∷ t → (a ≡ v) × (s ≡ t)
first_same c bytes a s v t la lv e g =
    let both = before_same c a v (c ∷ s) (c ∷ t) la lv refl refl (sym e ∙ g) in
    let cells : c ∷ s ≡ c ∷ t = both.1 in
    let tail : s ≡ t = cc in
    (both.0, tail)

all_lack : (c : ℕ) (front back : List ℕ) → LacksByRecursion c (front ++ c ∷ back) → ⊥
all_lack c [] back h = h.0 refl
all_lack c (x ∷ front) back h = all_lack c front back h.1

-- a line without the byte can't be cut there
pub lacks_none : (c : ℕ) (bytes front back : List ℕ) (n : ℕ) → length bytes ≤ n → Lacks c (take n bytes) → bytes ≡ front ++ c ∷ back → ⊥
lacks_none c bytes front back n le h e =
    let all : take n bytes ≡ bytes = take-all n bytes le in
    all_lack c front back (subst (LacksByRecursion c) (all ∙ e) (recursion_from_All _ (take n bytes) h))
  where
    take-all : (n : ℕ) (xs : List ℕ) → length xs ≤ n → take n xs ≡ xs
    take-all zero [] le = refl
    take-all (suc n) [] le = refl
    take-all zero (x ∷ xs) le = absurd (omega arith)
    take-all (suc n) (x ∷ xs) le = ap (λ z. x ∷ z) (take-all n xs (omega arith))

-- bytes that lack a byte can't be cut there
pub not_cut : (c : ℕ) (bytes front back : List ℕ) → Lacks c bytes → bytes ≡ front ++ c ∷ back → ⊥
not_cut c bytes front back h e = all_lack c front back (subst (LacksByRecursion c) e (recursion_from_All _ bytes h))

-- ---- words without spaces

abbrev lacks_test : ℕ → List ℕ → Bool
lacks_test c [] = true
lacks_test c (x ∷ xs) = not (eqb x c) && lacks_test c xs

not_equal : (x c : ℕ) (b : Bool) → (not (eqb x c) && b) ≡ true → (x ≢ c) × (b ≡ true)
not_equal x c b h =
    let differs : x ≢ c = λ e. grind arith in
    (differs, grind arith)

lacks_tested : (c : ℕ) (xs : List ℕ) → lacks_test c xs ≡ true → LacksByRecursion c xs
lacks_tested c [] h = tt
lacks_tested c (x ∷ xs) h = let both = not_equal x c (lacks_test c xs) h in (both.0, lacks_tested c xs both.1)

pub lacks_literal : (c : ℕ) (xs : List ℕ) → lacks_test c xs ≡ true → Lacks c xs
lacks_literal c xs h = All-from_recursion _ xs (lacks_tested c xs h)

pub lacks_kind : (k : MetricKind) → Lacks 32 (kind_word k)
lacks_kind Counter = lacks_literal 32 (kind_word Counter) refl
lacks_kind k = lacks_literal 32 (kind_word k) refl

pub lacks_unit : (u : Option Measure) → Lacks 32 (unit_word u)
lacks_unit (Some Count) = lacks_literal 32 (unit_word (Some Count)) refl
lacks_unit u = lacks_literal 32 (unit_word u) refl

pub lacks_update : (by : Update) → Lacks 32 (update_word by)
lacks_update (Increment n) = lacks_literal 32 (update_word (Increment n)) refl
lacks_update by = lacks_literal 32 (update_word by) refl

pub lacks_name : (n : List ℕ) → IsName n → Lacks 32 (name_word n)
lacks_name [] h = lacks_literal 32 (name_word []) refl
lacks_name (x ∷ xs) h = h.1

digits_lack : (ds : List ℕ) → AllDigits 10 ds → LacksByRecursion 32 ds
digits_lack [] h = tt
digits_lack (d ∷ ds) h =
    let range = digit_from_value d h.0 in
    let differs : d ≢ 32 = λ e. absurd (omega (arith, range.0, range.1, e)) in
    (differs, digits_lack ds h.1)

pub lacks_decimal : (n : ℕ) → n < 2 ^ 64 → Lacks 32 (decimal n)
lacks_decimal n h = All-from_recursion _ (decimal n) (digits_lack (decimal n) (decimal_is_IsNumeral n h).0.1)

-- ---- labels

pub lacks_label : (l : List ℕ × List ℕ) → IsLabel l → Lacks 32 (l.0 ++ 61 ∷ l.1)
lacks_label l h =
    let differs : 61 ≢ 32 = λ e. absurd (omega (arith, e)) in
    let value : LacksByRecursion 32 l.1 = recursion_from_All _ l.1 h.4 in
    All-append (λ x. x ≢ 32) l.0 (61 ∷ l.1) h.2 (All-from_recursion (λ x. x ≢ 32) (61 ∷ l.1) (differs, value))

pub starts_labels : (ls : List (List ℕ × List ℕ)) → StartsAt 32 (label_words ls)
starts_labels [] = tt
starts_labels (l ∷ ls) = refl

-- What is left of a line of labels: the next label, and those after it.
pub record NextLabel (word after : List ℕ) : Type 0 where
  pub label : List ℕ × List ℕ
  pub others : List (List ℕ × List ℕ)
  pub is_label : IsLabel label
  pub are_labels : AreLabels others
  pub word_is : word ≡ label.0 ++ 61 ∷ label.1
  pub after_is : after ≡ label_words others

pub next_label : (rest others word after : List ℕ) (ls : List (List ℕ × List ℕ)) → AreLabels ls → rest ≡ label_words ls → rest ≡ 32 ∷ others → others ≡ word ++ after →
    Lacks 32 word → StartsAt 32 after → NextLabel word after
next_label rest others word after [] h e r o lw sa = absurd (cc)
next_label rest others word after (l ∷ ls) h e r o lw sa =
    let cells : 32 ∷ others ≡ 32 ∷ ((l.0 ++ 61 ∷ l.1) ++ label_words ls) = sym r ∙ e in
    let tail : others ≡ (l.0 ++ 61 ∷ l.1) ++ label_words ls = cc in
    let both = before_same 32 word (l.0 ++ 61 ∷ l.1) after (label_words ls) lw (lacks_label l h.0) sa (starts_labels ls) (sym o ∙ tail) in
    record { label = l; others = ls; is_label = h.0; are_labels = h.1; word_is = both.0; after_is = both.1 }

-- each line of labels begins with a space
pub no_label : (rest : List ℕ) (ls : List (List ℕ × List ℕ)) → rest ≡ label_words ls → 0 < length rest → ((others : List ℕ) → rest ≡ 32 ∷ others → ⊥) → ⊥
no_label rest [] e p fails = absurd (omega (arith, ap length e))
no_label rest (l ∷ ls) e p fails = fails ((l.0 ++ 61 ∷ l.1) ++ label_words ls) e

labels_push : (ls : List (List ℕ × List ℕ)) (l : List ℕ × List ℕ) → AreLabels ls → IsLabel l → AreLabels (ls ++ l ∷ [])
labels_push [] l h g = (g, tt)
labels_push (k ∷ ls) l h g = (h.0, labels_push ls l h.1 g)

words_push : (ls : List (List ℕ × List ℕ)) (l : List ℕ × List ℕ) (after : List ℕ) → label_words (ls ++ l ∷ []) ++ after ≡ label_words ls ++ (label_word l ++ after)
words_push [] l after = ap (λ z. z ++ after) (append_nil_right (label_word l))
  where
    append_nil_right : (xs : List ℕ) → xs ++ [] ≡ xs
    append_nil_right [] = refl
    append_nil_right (x ∷ xs) = ap (λ z. x ∷ z) (append_nil_right xs)
words_push (k ∷ ls) l after =
    append_assoc (label_word k) (label_words (ls ++ l ∷ [])) after
    ∙ ap (λ z. label_word k ++ z) (words_push ls l after)
    ∙ sym (append_assoc (label_word k) (label_words ls) (label_word l ++ after))

-- how far a line of labels is read
pub record LabelsSoFar (bytes rest : List ℕ) (labels : List (List ℕ × List ℕ)) : Type 0 where
  pub are_labels : AreLabels labels
  pub whole : bytes ≡ label_words labels ++ rest
  pub left : (ls : List (List ℕ × List ℕ)) → AreLabels ls → bytes ≡ label_words ls → (others : List (List ℕ × List ℕ)) × AreLabels others × (rest ≡ label_words others)

pub labels_more : (bytes rest others word after : List ℕ) (labels : List (List ℕ × List ℕ)) (l : List ℕ × List ℕ) → LabelsSoFar bytes rest labels → rest ≡ 32 ∷ others → others ≡ word ++ after →
    Lacks 32 word → StartsAt 32 after → IsLabel l → word ≡ l.0 ++ 61 ∷ l.1 → LabelsSoFar bytes after (labels ++ l ∷ [])
labels_more bytes rest others word after labels l so r o lw sa h e = record {
  are_labels = labels_push labels l so.are_labels h;
  whole = so.whole ∙ ap (λ z. label_words labels ++ z) (r ∙ ap (λ z. 32 ∷ z) (o ∙ ap (λ z. z ++ after) e)) ∙ sym (words_push labels l after);
  left = λ ls g b. let (k, ks, i) = so.left ls g b in let n = next_label rest others word after k ks i r o lw sa in (n.others, n.are_labels, n.after_is);
}

-- ---- lines that spell nothing

lacks_left : (c : ℕ) (a b : List ℕ) → LacksByRecursion c (a ++ b) → LacksByRecursion c a
lacks_left c [] b h = tt
lacks_left c (x ∷ a) b h = (h.0, lacks_left c a b h.1)

lacks_right : (c : ℕ) (a b : List ℕ) → LacksByRecursion c (a ++ b) → LacksByRecursion c b
lacks_right c [] b h = h
lacks_right c (x ∷ a) b h = lacks_right c a b h.1

module _ (word key value : List ℕ) (whole : word ≡ key ++ 61 ∷ value) (before : Lacks 61 key) where
  pub is_label : Lacks 32 word → IsUtf8 key → IsUtf8 value → IsLabel (key, value)
  is_label h k v =
      let all : LacksByRecursion 32 (key ++ 61 ∷ value) = subst (LacksByRecursion 32) whole (recursion_from_All _ word h) in
      let left : Lacks 32 key = All-from_recursion (λ x. x ≢ 32) key (lacks_left 32 key (61 ∷ value) all) in
      let right : Lacks 32 value = All-from_recursion (λ x. x ≢ 32) value (lacks_right 32 key (61 ∷ value) all).1 in
      (k, v, left, before, right)

  pub no_label_key : (IsUtf8 key → ⊥) → (l : List ℕ × List ℕ) → IsLabel l → word ≡ l.0 ++ 61 ∷ l.1 → ⊥
  no_label_key fails l h e = fails (subst IsUtf8 (sym (first_same 61 word key value l.0 l.1 before h.3 whole e).0) h.0)

  pub no_label_value : (IsUtf8 value → ⊥) → (l : List ℕ × List ℕ) → IsLabel l → word ≡ l.0 ++ 61 ∷ l.1 → ⊥
  no_label_value fails l h e = fails (subst IsUtf8 (sym (first_same 61 word key value l.0 l.1 before h.3 whole e).1) h.1)

module _ (bytes word rest : List ℕ) (whole : bytes ≡ word ++ rest) (before : Lacks 32 word) (starts : StartsAt 32 rest) where
  pub no_key_name : ((n : List ℕ) → IsName n → word ≡ name_word n → ⊥) → (k : KeyParts) → IsName k.name → AreLabels k.labels → bytes ≡ name_word k.name ++ label_words k.labels → ⊥
  no_key_name fails k is are e =
      fails k.name is (before_same 32 word (name_word k.name) rest (label_words k.labels) before (lacks_name k.name is) starts (starts_labels k.labels) (sym whole ∙ e)).0

  pub no_key_labels : ((ls : List (List ℕ × List ℕ)) → AreLabels ls → rest ≡ label_words ls → ⊥) → (k : KeyParts) → IsName k.name → AreLabels k.labels → bytes ≡ name_word k.name ++ label_words k.labels → ⊥
  no_key_labels fails k is are e =
      fails k.labels are (before_same 32 word (name_word k.name) rest (label_words k.labels) before (lacks_name k.name is) starts (starts_labels k.labels) (sym whole ∙ e)).1

module _ (bytes word rest : List ℕ) (whole : bytes ≡ word ++ 32 ∷ rest) (before : Lacks 32 word) where
  pub no_handle : ((n : ℕ) → n < 2 ^ 64 → word ≡ decimal n → ⊥) → (h : ℕ) (others : List ℕ) → h < 2 ^ 64 → bytes ≡ decimal h ++ 32 ∷ others → ⊥
  no_handle fails h others lt e = fails h lt (first_same 32 bytes word rest (decimal h) others before (lacks_decimal h lt) whole e).0

  pub no_kind : ((k : MetricKind) → word ≡ kind_word k → ⊥) → (k : MetricKind) (others : List ℕ) → bytes ≡ kind_word k ++ 32 ∷ others → ⊥
  no_kind fails k others e = fails k (first_same 32 bytes word rest (kind_word k) others before (lacks_kind k) whole e).0

  pub no_unit : ((u : Option Measure) → word ≡ unit_word u → ⊥) → (u : Option Measure) (text : List ℕ) → bytes ≡ unit_word u ++ 32 ∷ text → ⊥
  no_unit fails u text e = fails u (first_same 32 bytes word rest (unit_word u) text before (lacks_unit u) whole e).0

  pub no_name : ((n : List ℕ) → IsName n → word ≡ name_word n → ⊥) → (n others : List ℕ) → IsName n → bytes ≡ name_word n ++ 32 ∷ others → ⊥
  no_name fails n others is e = fails n is (first_same 32 bytes word rest (name_word n) others before (lacks_name n is) whole e).0

  pub no_note : ((u : Option Measure) (text : List ℕ) → IsUtf8 text → rest ≡ unit_word u ++ 32 ∷ text → ⊥) → (n : List ℕ) (u : Option Measure) (text : List ℕ) → IsName n → IsUtf8 text →
      bytes ≡ name_word n ++ 32 ∷ (unit_word u ++ 32 ∷ text) → ⊥
  no_note fails n u text is utf8 e = fails u text utf8 (first_same 32 bytes word rest (name_word n) (unit_word u ++ 32 ∷ text) before (lacks_name n is) whole e).1
