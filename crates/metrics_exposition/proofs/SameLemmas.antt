-- Tests of equality, and what they say.
use Rattle.std.proofs.Common.{◌≡◌, ◌∙◌, Bool, true, false, ◌&&◌, ℕ, List, Decides, refl, ap}
use Rattle.std.specs.Prelude.{bytes_eq}
use Rattle.std.specs.Cmp.Lexicographic.{pointwise}
use Rattle.std.proofs.lemmas.Slice.Eq.{bytes_eq-Decides, slice_eq-Decides}
use Rattle.metrics_names.specs.declared.kind.MetricKind.{MetricKind}
use Rattle.metrics_names.specs.declared.kind.MetricKind.TheVariants.{Counter, Gauge, Histogram}
use Rattle.metrics_names.specs.Names.{LabelParts, label_eq, kind_eq}

pub both-true : (a b : Bool) → (a && b) ≡ true → (a ≡ true) × (b ≡ true)
both-true true b e = (refl, e)
both-true false b e = absurd (let g : false ≡ true = e in cc)

pub same-kind : (a b : MetricKind) → kind_eq a b ≡ true → a ≡ b
same-kind Counter Counter e = refl
same-kind Counter Gauge e = absurd (let g : false ≡ true = e in cc)
same-kind Counter Histogram e = absurd (let g : false ≡ true = e in cc)
same-kind Gauge Counter e = absurd (let g : false ≡ true = e in cc)
same-kind Gauge Gauge e = refl
same-kind Gauge Histogram e = absurd (let g : false ≡ true = e in cc)
same-kind Histogram Counter e = absurd (let g : false ≡ true = e in cc)
same-kind Histogram Gauge e = absurd (let g : false ≡ true = e in cc)
same-kind Histogram Histogram e = refl

pub bytes-same : (a b : List ℕ) → a ≡ b → bytes_eq a b ≡ true
bytes-same a b = (bytes_eq-Decides a b).1

pub same-bytes : (a b : List ℕ) → bytes_eq a b ≡ true → a ≡ b
same-bytes a b = (bytes_eq-Decides a b).0

label-decides : (a b : LabelParts) → Decides (label_eq a b) (a ≡ b)
label-decides (n, v) (m, w) = (
  λ e. let h = both-true (bytes_eq n m) (bytes_eq v w) e in λ i. (same-bytes n m h.0 i, same-bytes v w h.1 i),
  λ e. both (bytes_eq n m) (bytes_eq v w) (bytes-same n m (ap (λ l. l.0) e)) (bytes-same v w (ap (λ l. l.1) e)),
)
  where
    both : (a b : Bool) → a ≡ true → b ≡ true → (a && b) ≡ true
    both a b e f = ap (λ x. x && b) e ∙ f

pub labels-same : (a b : List LabelParts) → a ≡ b → pointwise label_eq a b ≡ true
labels-same a b = (slice_eq-Decides label-decides a b (pointwise label_eq a b) refl).1

pub same-labels : (a b : List LabelParts) → pointwise label_eq a b ≡ true → a ≡ b
same-labels a b = (slice_eq-Decides label-decides a b (pointwise label_eq a b) refl).0
