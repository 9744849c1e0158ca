-- The tests of names decide equality.
use Rattle.std.proofs.Common.{◌≡◌, ℕ, Bool, true, false, ◌&&◌, List, [], ◌∷◌, refl, ap, sym, ◌∙◌, true≢false}
use Rattle.std.specs.Bool.{Decides}
use Rattle.std.specs.Cmp.Lexicographic.{pointwise}
use Rattle.std.proofs.lemmas.Slice.Eq.{bytes_eq-Decides}
use Rattle.metrics_names.specs.declared.kind.MetricKind.{MetricKind}
use Rattle.metrics_names.specs.declared.kind.MetricKind.TheVariants.{Counter, Gauge, Histogram}
use Rattle.metrics_names.specs.Names.{KeyParts, SeriesKey, kind_eq, label_eq, key_eq, series_key_eq}

pub and_left : (a b : Bool) → (a && b) ≡ true → a ≡ true
and_left true b h = refl
and_left false b h = h

pub and_right : (a b : Bool) → (a && b) ≡ true → b ≡ true
and_right true b h = h
and_right false b h = absurd (true≢false (sym h))

pub and_both : (a b : Bool) → a ≡ true → b ≡ true → (a && b) ≡ true
and_both a b h g = ap (λ x. x && b) h ∙ g

pub kind_eq-Decides : (a b : MetricKind) → Decides (kind_eq a b) (a ≡ b)
kind_eq-Decides Counter Counter = (λ _. refl, λ _. refl)
kind_eq-Decides Gauge Gauge = (λ _. refl, λ _. refl)
kind_eq-Decides Histogram Histogram = (λ _. refl, λ _. refl)
kind_eq-Decides Counter Gauge = (λ e. absurd (true≢false (sym e)), λ e. absurd (cc))
kind_eq-Decides Counter Histogram = (λ e. absurd (true≢false (sym e)), λ e. absurd (cc))
kind_eq-Decides Gauge Counter = (λ e. absurd (true≢false (sym e)), λ e. absurd (cc))
kind_eq-Decides Gauge Histogram = (λ e. absurd (true≢false (sym e)), λ e. absurd (cc))
kind_eq-Decides Histogram Counter = (λ e. absurd (true≢false (sym e)), λ e. absurd (cc))
kind_eq-Decides Histogram Gauge = (λ e. absurd (true≢false (sym e)), λ e. absurd (cc))

label_eq-Decides : (a b : List ℕ × List ℕ) → Decides (label_eq a b) (a ≡ b)
label_eq-Decides a b = (
  λ e.
      let l : a.0 ≡ b.0 = (bytes_eq-Decides a.0 b.0).0 (and_left _ _ e) in
      let r : a.1 ≡ b.1 = (bytes_eq-Decides a.1 b.1).0 (and_right _ _ e) in
      ap (λ x. (x, a.1)) l ∙ ap (λ x. (b.0, x)) r,
  λ e. and_both _ _ ((bytes_eq-Decides a.0 b.0).1 (ap (λ (x : List ℕ × List ℕ). x.0) e)) ((bytes_eq-Decides a.1 b.1).1 (ap (λ (x : List ℕ × List ℕ). x.1) e)),
)

labels_exact : (xs ys : List (List ℕ × List ℕ)) → pointwise label_eq xs ys ≡ true → xs ≡ ys
labels_exact [] [] e = refl
labels_exact [] (y ∷ ys) e = absurd (true≢false (sym e))
labels_exact (x ∷ xs) [] e = absurd (true≢false (sym e))
labels_exact (x ∷ xs) (y ∷ ys) e =
    let h : x ≡ y = (label_eq-Decides x y).0 (and_left (label_eq x y) (pointwise label_eq xs ys) e) in
    let t : xs ≡ ys = labels_exact xs ys (and_right (label_eq x y) (pointwise label_eq xs ys) e) in
    ap (λ z. z ∷ xs) h ∙ ap (λ zs. y ∷ zs) t

labels_same : (xs : List (List ℕ × List ℕ)) → pointwise label_eq xs xs ≡ true
labels_same [] = refl
labels_same (x ∷ xs) = and_both (label_eq x x) (pointwise label_eq xs xs) ((label_eq-Decides x x).1 refl) (labels_same xs)

pub key_eq-Decides : (a b : KeyParts) → Decides (key_eq a b) (a ≡ b)
key_eq-Decides a b = (
  λ e.
      let l : a.name ≡ b.name = (bytes_eq-Decides a.name b.name).0 (and_left _ _ e) in
      let r : a.labels ≡ b.labels = labels_exact a.labels b.labels (and_right _ _ e) in
      ap (λ x. record { name = x; labels = a.labels }) l ∙ ap (λ x. record { name = b.name; labels = x }) r,
  λ e. and_both _ _ ((bytes_eq-Decides a.name b.name).1 (ap (λ (k : KeyParts). k.name) e)) (ap (λ (k : KeyParts). pointwise label_eq k.labels b.labels) e ∙ labels_same b.labels),
)

-- equality of composite keys is that of all parts
pub series_key_eq-Decides : (a b : SeriesKey) → Decides (series_key_eq a b) (a ≡ b)
series_key_eq-Decides a b = (
  λ e.
      let l : a.kind ≡ b.kind = (kind_eq-Decides a.kind b.kind).0 (and_left _ _ e) in
      let r : a.key ≡ b.key = (key_eq-Decides a.key b.key).0 (and_right _ _ e) in
      ap (λ x. record { kind = x; key = a.key }) l ∙ ap (λ x. record { kind = b.kind; key = x }) r,
  λ e. and_both _ _ ((kind_eq-Decides a.kind b.kind).1 (ap (λ (k : SeriesKey). k.kind) e)) ((key_eq-Decides a.key b.key).1 (ap (λ (k : SeriesKey). k.key) e)),
)

pub key_exact : (a b : SeriesKey) → series_key_eq a b ≡ true → a ≡ b
key_exact a b e = (series_key_eq-Decides a b).0 e

pub key_same : (k : SeriesKey) → series_key_eq k k ≡ true
key_same k = (series_key_eq-Decides k k).1 refl
