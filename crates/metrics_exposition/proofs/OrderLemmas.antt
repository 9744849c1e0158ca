-- How orders decide, and how their parts do.
use Rattle.std.proofs.Common.{◌≡◌, ◌∙◌, ◌⊎◌, inl, inr, ℕ, true, false, List, refl, ap, sym}
use Rattle.std.specs.Cmp.{IsTotalOrder}
use Rattle.std.specs.Cmp.Lexicographic.{slice_cmp}
use Rattle.std.specs.Ordering.{nat_cmp, ordering_then, ordering_reverse, is_lt}
use Rattle.std.specs.declared.cmp.Ordering.{Ordering}
use Rattle.std.specs.declared.cmp.Ordering.TheVariants.{Less, Equal, Greater}
use Rattle.std.proofs.lemmas.Cmp.{nat_list_cmp_total, lists_total, then_total, on_total}
use Rattle.metrics_names.specs.Names.{LabelParts, label_cmp}

abbrev pub names : List ℕ → List ℕ → Ordering
names = slice_cmp nat_cmp

abbrev pub label_lists : List LabelParts → List LabelParts → Ordering
label_lists = slice_cmp label_cmp

pub label_total : IsTotalOrder label_cmp
label_total = then_total (on_total (λ l. l.0) nat_list_cmp_total) (on_total (λ l. l.1) nat_list_cmp_total)

pub label_lists_total : IsTotalOrder label_lists
label_lists_total = lists_total label_total

pub never : {K : Type 0} (R : K → K → Ordering) (total : IsTotalOrder R) (x : K) → R x x ≡ Less → ⊥
never R total x e = let g : Less ≡ Greater = sym e ∙ total.antisymm x x ∙ ap ordering_reverse e in cc

-- what is not above comes before or is equal
pub turn : (o p : Ordering) → o ≡ ordering_reverse p → is_lt p ≡ false → (o ≡ Less) ⊎ (p ≡ Equal)
turn o Less e up = absurd (let g : true ≡ false = up in cc)
turn o Equal e up = inr refl
turn o Greater e up = inl e

pub first-part : (o p : Ordering) → is_lt (ordering_then o p) ≡ false → is_lt o ≡ false
first-part Less p up = up
first-part Equal p up = refl
first-part Greater p up = refl

pub second-part : (o p : Ordering) → o ≡ Equal → is_lt (ordering_then o p) ≡ false → is_lt p ≡ false
second-part Less p e up = absurd (let g : Less ≡ Equal = e in cc)
second-part Equal p e up = up
second-part Greater p e up = absurd (let g : Greater ≡ Equal = e in cc)
