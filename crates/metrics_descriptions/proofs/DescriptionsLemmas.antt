-- What a map of descriptions says of a name.
use Rattle.std.proofs.Common.{◌≡◌, ℕ, Bool, true, false, cond, List, Option, None, Some, refl, ap, ◌∙◌, sym, subst, bytes_eq}
use Rattle.std.specs.Option.{option_or}
use Rattle.std.specs.Cmp.Lexicographic.{bytes_decides}
use Rattle.metrics_names.specs.declared.common.Unit.{Unit as Measure}
use Rattle.metrics.specs.Book.{Description, described_again}
use Rattle.metrics_descriptions.specs.declared.descriptions.Described.{Described}
use Rattle.metrics_descriptions.specs.Legends.{description_of}

-- a unit, if there was none before
pub or-none : (unit : Option Measure) → unit ≡ option_or unit None
or-none None = refl
or-none (Some u) = refl

-- a new description of a name, and no change elsewhere
pub noted : (f g : List ℕ → Option Described) (name bs : List ℕ) (unit : Option Measure) (text : List ℕ) (x : Described) (n : List ℕ) →
    g n ≡ cond (bytes_eq bs n) (Some x) (f n) → bs ≡ name → x.unit ≡ option_or unit (description_of (f name)).unit → x.text ≡ text →
    description_of (g n) ≡ cond (bytes_eq name n) (described_again unit text (description_of (f n))) (description_of (f n))
noted f g name bs unit text x n e b u t =
    ap description_of (subst (λ m. g n ≡ cond (bytes_eq m n) (Some x) (f n)) b e) ∙ by_test (bytes_eq name n) refl
  where
    by_test : (q : Bool) → bytes_eq name n ≡ q → description_of (cond q (Some x) (f n)) ≡ cond q (described_again unit text (description_of (f n))) (description_of (f n))
    by_test false h = refl
    by_test true h =
        let here : name ≡ n = (bytes_decides name n).0 h in
        let unit_is : x.unit ≡ option_or unit (description_of (f n)).unit = subst (λ m. x.unit ≡ option_or unit (description_of (f m)).unit) here u in
        ap (λ v. record { unit = v; text = Some x.text }) unit_is ∙ ap (λ v. record { unit = option_or unit (description_of (f n)).unit; text = Some v }) t

-- a description that repeats that of a name
pub keyed-again : (f : List ℕ → Description) (name : List ℕ) (unit : Option Measure) (text n : List ℕ) →
    described_again unit text (f name) ≡ f name → f n ≡ cond (bytes_eq name n) (described_again unit text (f n)) (f n)
keyed-again f name unit text n same = by_test (bytes_eq name n) refl
  where
    by_test : (q : Bool) → bytes_eq name n ≡ q → f n ≡ cond q (described_again unit text (f n)) (f n)
    by_test false h = refl
    by_test true h = sym (subst (λ m. described_again unit text (f m) ≡ f m) ((bytes_decides name n).0 h) same)
