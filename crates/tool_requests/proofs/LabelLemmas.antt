-- How labels are read.
use Rattle.std.proofs.Common.{◌≡◌, ◌∙◌, ℕ, ◌<◌, Bool, true, false, List, [], ◌∷◌, ◌++◌, drop, get_or, length, append-nil, append_assoc, refl, ap, sym, subst, arith}
use Rattle.std.specs.List.{AllByRecursion}
use Rattle.metrics_names.specs.Names.{LabelParts}
use Rattle.metrics_exposition.specs.Labels.{placed}
use Rattle.tool_grammar.specs.Cuts.{StartsAt}
use Rattle.tool_grammar.proofs.WordsLemmas.{before_same, first_same}
use Rattle.tool_requests.specs.Lines.{escape, escaped, IsQuotable, StartsElse, CanBeValue, value_word, Written, IsWritten, label_of}
use Rattle.tool_requests.specs.Lines.{label_word, label_words, LacksKey, HasRoom, MayFollow, AreWritten, put_in, in_order}
use Rattle.tool_requests.proofs.EscapeLemmas.{escape-same, escaped-same}

-- ---- quoted values

-- how far a quoted value is read
pub record QuotedSoFar (bytes rest value : List ℕ) : Type 0 where
  pub made : (v r : List ℕ) → AllByRecursion IsQuotable v → rest ≡ escaped v ++ 34 ∷ r
      → AllByRecursion IsQuotable (value ++ v) × (bytes ≡ escaped (value ++ v) ++ 34 ∷ r)
  pub left : (v r : List ℕ) → AllByRecursion IsQuotable v → bytes ≡ escaped v ++ 34 ∷ r
      → (w : List ℕ) × AllByRecursion IsQuotable w × (rest ≡ escaped w ++ 34 ∷ r)

not-quote : (rest r : List ℕ) → StartsElse 34 rest → rest ≡ 34 ∷ r → ⊥
not-quote rest r h e = subst (StartsElse 34) e h refl

pub quoted-more : (bytes rest others value : List ℕ) (c : ℕ) → QuotedSoFar bytes rest value → StartsElse 34 rest → IsQuotable c
    → rest ≡ escape c ++ others → QuotedSoFar bytes others (value ++ c ∷ [])
quoted-more bytes rest others value c so starts hc is = record {
  made = λ v r h e.
      let m = so.made (c ∷ v) r (hc, h) (is ∙ ap (λ z. escape c ++ z) e ∙ sym (append_assoc (escape c) (escaped v) (34 ∷ r))) in
      subst (λ l. AllByRecursion IsQuotable l × (bytes ≡ escaped l ++ 34 ∷ r)) (sym (append_assoc value (c ∷ []) v)) m;
  left = λ v r h e. let (w, hw, at) = so.left v r h e in step w r hw at;
}
  where
    step : (w r : List ℕ) → AllByRecursion IsQuotable w → rest ≡ escaped w ++ 34 ∷ r
        → (ds : List ℕ) × AllByRecursion IsQuotable ds × (others ≡ escaped ds ++ 34 ∷ r)
    step [] r hw at = absurd (not-quote rest r starts at)
    step (d ∷ ds) r hw at =
        (ds, hw.1, (escape-same c d others (escaped ds ++ 34 ∷ r) (sym is ∙ at ∙ append_assoc (escape d) (escaped ds) (34 ∷ r))).1)

pub quoted-ends : (bytes rest value behind : List ℕ) → QuotedSoFar bytes rest value → rest ≡ 34 ∷ behind
    → AllByRecursion IsQuotable value × (bytes ≡ escaped value ++ 34 ∷ behind)
quoted-ends bytes rest value behind so is =
    subst (λ l. AllByRecursion IsQuotable l × (bytes ≡ escaped l ++ 34 ∷ behind)) (append-nil value) (so.made [] behind tt is)

pub quoted-fails : (bytes rest value : List ℕ) → QuotedSoFar bytes rest value → StartsElse 34 rest
    → ((c : ℕ) (more : List ℕ) → IsQuotable c → rest ≡ escape c ++ more → ⊥)
    → (v r : List ℕ) → AllByRecursion IsQuotable v → bytes ≡ escaped v ++ 34 ∷ r → ⊥
quoted-fails bytes rest value so starts none v r h e = let (w, hw, at) = so.left v r h e in step w hw at
  where
    step : (w : List ℕ) → AllByRecursion IsQuotable w → rest ≡ escaped w ++ 34 ∷ r → ⊥
    step [] hw at = not-quote rest r starts at
    step (d ∷ ds) hw at = none d (escaped ds ++ 34 ∷ r) hw.0 (at ∙ append_assoc (escape d) (escaped ds) (34 ∷ r))

-- ---- values

not-both : (r w y : List ℕ) → StartsElse 34 w → StartsAt 32 y → 34 ∷ r ≡ w ++ y → ⊥
not-both r [] y h at e = absurd (let k : 34 ≡ 32 = subst (StartsAt 32) (sym e) at in omega (arith, k))
not-both r (a ∷ w) y h at e = h (sym (ap (λ l. get_or l 0 0) e))

value-same : (p q : Bool) (v w x y : List ℕ) → CanBeValue p v → CanBeValue q w → StartsAt 32 x → StartsAt 32 y
    → value_word p v ++ x ≡ value_word q w ++ y → (p ≡ q) × (v ≡ w) × (x ≡ y)
value-same true true v w x y hv hw hx hy e =
    let both = escaped-same v w x y (sym (append_assoc (escaped v) (34 ∷ []) x) ∙ ap (drop 1) e ∙ append_assoc (escaped w) (34 ∷ []) y) in
    (refl, both.0, both.1)
value-same false false v w x y hv hw hx hy e = let both = before_same 32 v w x y hv.1 hw.1 hx hy e in (refl, both.0, both.1)
value-same true false v w x y hv hw hx hy e = absurd (not-both _ w y hw.2 hy e)
value-same false true v w x y hv hw hx hy e = absurd (not-both _ v x hv.2 hx (sym e))

-- ---- labels

pub starts-words : (ws : List Written) → StartsAt 32 (label_words ws)
starts-words [] = tt
starts-words (w ∷ ws) = refl

cut-label : (w : Written) (x : List ℕ) → label_word w ++ x ≡ 32 ∷ (w.key ++ 61 ∷ (value_word w.quoted w.value ++ x))
cut-label w x = ap (λ z. 32 ∷ z) (append_assoc w.key (61 ∷ value_word w.quoted w.value) x)

-- a label is read in one way
pub label-same : (v w : Written) (x y : List ℕ) → IsWritten v → IsWritten w → StartsAt 32 x → StartsAt 32 y
    → label_word v ++ x ≡ label_word w ++ y → (v ≡ w) × (x ≡ y)
label-same v w x y hv hw hx hy e =
    let tail = ap (drop 1) (sym (cut-label v x) ∙ e ∙ cut-label w y) in
    let keys = first_same 61 (v.key ++ 61 ∷ (value_word v.quoted v.value ++ x)) v.key (value_word v.quoted v.value ++ x) w.key
    (value_word w.quoted w.value ++ y) hv.2 hw.2 refl tail in
    let values = value-same v.quoted w.quoted v.value w.value x y hv.3 hw.3 hx hy keys.1 in
    (λ i. record { key = keys.0 i; value = values.1 i; quoted = values.0 i }, values.2)

-- how far the labels of a line are read
pub record LabelsSoFar (bytes rest : List ℕ) (labels : List LabelParts) : Type 0 where
  pub made : (ws : List Written) → MayFollow labels ws → rest ≡ label_words ws
      → (all : List Written) × AreWritten all × (put_in labels ws ≡ in_order all) × (bytes ≡ label_words all)
  pub left : (ws : List Written) → AreWritten ws → bytes ≡ label_words ws
      → (others : List Written) × MayFollow labels others × (rest ≡ label_words others)

pub labels-more : (bytes rest after : List ℕ) (labels : List LabelParts) (w : Written) → LabelsSoFar bytes rest labels
    → IsWritten w → LacksKey w.key labels → HasRoom labels → rest ≡ label_word w ++ after → StartsAt 32 after
    → LabelsSoFar bytes after (placed (label_of w) labels)
labels-more bytes rest after labels w so hw lacks room is starts = record {
  made = λ ws h e. so.made (w ∷ ws) (hw, lacks, room, h) (is ∙ ap (λ z. label_word w ++ z) e);
  left = λ ws h e. let (others, ho, at) = so.left ws h e in step others ho at;
}
  where
    step : (others : List Written) → MayFollow labels others → rest ≡ label_words others
        → (ks : List Written) × MayFollow (placed (label_of w) labels) ks × (after ≡ label_words ks)
    step [] ho at = let no : label_word w ++ after ≡ [] = sym is ∙ at in absurd (cc)
    step (k ∷ ks) ho at =
        let same = label-same w k after (label_words ks) hw ho.0 starts (starts-words ks) (sym is ∙ at) in
        (ks, subst (λ l. MayFollow (placed (label_of l) labels) ks) (sym same.0) ho.3, same.1)

pub labels-end : (bytes rest : List ℕ) (labels : List LabelParts) → LabelsSoFar bytes rest labels → rest ≡ []
    → (ws : List Written) × AreWritten ws × (labels ≡ in_order ws) × (bytes ≡ label_words ws)
labels-end bytes rest labels so is = so.made [] tt is

pub labels-fail : (bytes rest : List ℕ) (labels : List LabelParts) → LabelsSoFar bytes rest labels → 0 < length rest
    → ((w : Written) (r : List ℕ) → IsWritten w → StartsAt 32 r → rest ≡ label_word w ++ r → LacksKey w.key labels → HasRoom labels → ⊥)
    → (ws : List Written) → AreWritten ws → bytes ≡ label_words ws → ⊥
labels-fail bytes rest labels so some none ws h e = let (others, ho, at) = so.left ws h e in step others ho at
  where
    step : (others : List Written) → MayFollow labels others → rest ≡ label_words others → ⊥
    step [] ho at = absurd (omega (arith, some, ap length at))
    step (k ∷ ks) ho at = none k (label_words ks) ho.0 (starts-words ks) at ho.1 ho.2

-- a label whose key another has can't be read otherwise
pub label-twice : (bytes rest : List ℕ) (labels : List LabelParts) (w : Written) → IsWritten w → bytes ≡ label_word w ++ rest
    → StartsAt 32 rest → (LacksKey w.key labels → ⊥)
    → (k : Written) (r : List ℕ) → IsWritten k → StartsAt 32 r → bytes ≡ label_word k ++ r → LacksKey k.key labels → HasRoom labels → ⊥
label-twice bytes rest labels w hw is starts has k r hk sr e lacks room =
    let same = label-same w k rest r hw hk starts sr (sym is ∙ e) in
    has (subst (λ l. LacksKey l.key labels) (sym same.0) lacks)
