-- Labels that all series have.
use Rattle.std.proofs.Common.{◌≡◌, ◌∙◌, ℕ, Bool, true, false, cond, ◌||◌, List, [], ◌∷◌, get_or, refl, ap, sym, subst, true≢false}
use Rattle.std.specs.Prelude.{Option, None, Some, bytes_eq}
use Rattle.std.specs.Option.{option_or}
use Rattle.std.specs.Ordering.{is_lt}
use Rattle.std.proofs.lemmas.Bool.{false_from_ne_true, or_parts, true_from_ne_false}
use Rattle.std.proofs.lemmas.Slice.Eq.{bytes_eq-Decides}
use Rattle.std.proofs.lemmas.List.Folds.{list_any_at, list_any_none}
use Rattle.metrics_names.specs.Names.{LabelParts, label_cmp}
use Rattle.metrics_exposition.specs.Labels.{placed}
use Rattle.tool_requests.specs.Lines.{LacksKey, has_key, with_label, with_labels, value_of}

-- ---- whether a label has a key

pub lacks-key : (key : List ℕ) (labels : List LabelParts) → has_key key labels ≡ false → LacksKey key labels
lacks-key key labels none = λ k d small e.
    true≢false (sym (list_any_at (λ l. bytes_eq l.0 key) labels k d small ((bytes_eq-Decides (get_or labels k d).0 key).1 e)) ∙ none)

pub key-lacking : (key : List ℕ) (labels : List LabelParts) → LacksKey key labels → has_key key labels ≡ false
key-lacking key labels lacks = list_any_none (λ l. bytes_eq l.0 key) labels
    (λ k d small. false_from_ne_true _ (λ e. lacks k d small ((bytes_eq-Decides (get_or labels k d).0 key).0 e)))

-- ---- one common label

pub stays : (l : LabelParts) (labels : List LabelParts) → (LacksKey l.0 labels → ⊥) → with_label l labels ≡ labels
stays l labels has = ap (λ b. cond b labels (placed l labels)) (true_from_ne_false _ (λ e. has (lacks-key l.0 labels e)))

pub joins : (l : LabelParts) (labels : List LabelParts) → LacksKey l.0 labels → with_label l labels ≡ placed l labels
joins l labels lacks = ap (λ b. cond b labels (placed l labels)) (key-lacking l.0 labels lacks)

-- ---- the value of a key

pub or-none : {T : Type 0} (o : Option T) → option_or o None ≡ o
or-none None = refl
or-none (Some x) = refl

pub or-or : {T : Type 0} (a b c : Option T) → option_or (option_or a b) c ≡ option_or a (option_or b c)
or-or None b c = refl
or-or (Some x) b c = refl

no-value : (key : List ℕ) (ms : List LabelParts) → has_key key ms ≡ false → value_of key ms ≡ None
no-value key [] none = refl
no-value key (m ∷ ms) none =
    let parts = or_parts (bytes_eq m.0 key) (has_key key ms) none in
    ap (λ b. cond b (Some m.1) (value_of key ms)) parts.0 ∙ no-value key ms parts.1

some-value : (key : List ℕ) (ms : List LabelParts) (o : Option (List ℕ)) → has_key key ms ≡ true → option_or (value_of key ms) o ≡ value_of key ms
some-value key [] o has = absurd (true≢false (sym has))
some-value key (m ∷ ms) o has = by (bytes_eq m.0 key) has (some-value key ms o)
  where
    by : (b : Bool) → (b || has_key key ms) ≡ true → (has_key key ms ≡ true → option_or (value_of key ms) o ≡ value_of key ms)
        → option_or (cond b (Some m.1) (value_of key ms)) o ≡ cond b (Some m.1) (value_of key ms)
    by true e later = refl
    by false e later = later e

module _ (key : List ℕ) (l : LabelParts) where
  -- before labels without its key
  first-value : (ms : List LabelParts) → has_key l.0 ms ≡ false → value_of key (l ∷ ms) ≡ option_or (value_of key ms) (value_of key (l ∷ []))
  first-value ms none = by (bytes_eq l.0 key) refl
    where
      by : (b : Bool) → bytes_eq l.0 key ≡ b → cond b (Some l.1) (value_of key ms) ≡ option_or (value_of key ms) (cond b (Some l.1) None)
      by true e =
          let same : l.0 ≡ key = (bytes_eq-Decides l.0 key).0 e in
          sym (ap (λ v. option_or v (Some l.1)) (no-value key ms (subst (λ k. has_key k ms ≡ false) same none)))
      by false e = sym (or-none (value_of key ms))

  placed-value : (ms : List LabelParts) → has_key l.0 ms ≡ false → value_of key (placed l ms) ≡ option_or (value_of key ms) (value_of key (l ∷ []))
  placed-value [] none = refl
  placed-value (m ∷ ms) none = by (is_lt (label_cmp l m))
      (after (bytes_eq m.0 key) (placed-value ms (or_parts (bytes_eq m.0 l.0) (has_key l.0 ms) none).1))
    where
      after : (b : Bool) → value_of key (placed l ms) ≡ option_or (value_of key ms) (value_of key (l ∷ []))
          → cond b (Some m.1) (value_of key (placed l ms)) ≡ option_or (cond b (Some m.1) (value_of key ms)) (value_of key (l ∷ []))
      after true e = refl
      after false e = e

      by : (b : Bool) → value_of key (m ∷ placed l ms) ≡ option_or (value_of key (m ∷ ms)) (value_of key (l ∷ []))
          → value_of key (cond b (l ∷ m ∷ ms) (m ∷ placed l ms)) ≡ option_or (value_of key (m ∷ ms)) (value_of key (l ∷ []))
      by true e = first-value (m ∷ ms) none
      by false e = e

  label-value : (ms : List LabelParts) → value_of key (with_label l ms) ≡ option_or (value_of key ms) (value_of key (l ∷ []))
  label-value ms = by (has_key l.0 ms) refl
    where
      kept : has_key l.0 ms ≡ true → (b : Bool) → bytes_eq l.0 key ≡ b → value_of key ms ≡ option_or (value_of key ms) (cond b (Some l.1) None)
      kept has true e = sym (some-value key ms (Some l.1) (subst (λ k. has_key k ms ≡ true) ((bytes_eq-Decides l.0 key).0 e) has))
      kept has false e = sym (or-none (value_of key ms))

      by : (b : Bool) → has_key l.0 ms ≡ b → value_of key (cond b ms (placed l ms)) ≡ option_or (value_of key ms) (value_of key (l ∷ []))
      by true e = kept e (bytes_eq l.0 key) refl
      by false e = placed-value ms e

pub labels-value : (common own : List LabelParts) (key : List ℕ) → value_of key (with_labels common own) ≡ option_or (value_of key own) (value_of key common)
labels-value [] own key = sym (or-none (value_of key own))
labels-value (l ∷ ls) own key =
    labels-value ls (with_label l own) key
    ∙ ap (λ v. option_or v (value_of key ls)) (label-value key l own)
    ∙ or-or (value_of key own) (value_of key (l ∷ [])) (value_of key ls)
    ∙ ap (option_or (value_of key own)) (by (bytes_eq l.0 key))
  where
    by : (b : Bool) → option_or (cond b (Some l.1) None) (value_of key ls) ≡ cond b (Some l.1) (value_of key ls)
    by true = refl
    by false = refl
