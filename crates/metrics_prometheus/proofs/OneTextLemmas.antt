-- A set of cells has one text at most: the rows of held series have one order alone.
use Rattle.std.proofs.Common.{◌≡◌, ◌∙◌, inl, inr, ℕ, List, [], ◌∷◌, map, Contains, None, refl, ap, sym, subst}
use Rattle.std.specs.List.{AllByRecursion}
use Rattle.std.specs.declared.cmp.Ordering.TheVariants.{Less}
use Rattle.std.proofs.lemmas.List.Sorted.{IsPermutation-sym, Contains-permutation}
use Rattle.metrics_exporter.specs.Exporting.{Cells}
use Rattle.metrics_descriptions.specs.Legends.{Legend}
use Rattle.metrics_exposition.specs.declared.naming.Naming.{Naming}
use Rattle.metrics_exposition.specs.Naming.{Display}
use Rattle.metrics_prometheus.specs.Exposition.{Row, row_of, row_cmp, rows_text, AreRows, IsScaled}
use Rattle.metrics_exposition.proofs.PairLemmas.{each-map, each-both, each-in, in-first, in-later, in-split, in-none, Pairs}
use Rattle.metrics_prometheus.proofs.WrittenLemmas.{row_total, rows-up, IsUp}
use Rattle.metrics_exposition.proofs.OrderLemmas.{never, turn}
use Rattle.metrics_prometheus.proofs.OnceLemmas.{series-from, unmapped}
use Rattle.metrics_prometheus.proofs.ToldLemmas.{AreOfOthers, rows-of-others, row-held}

abbrev IsBelow : Row → Row → Type 0
IsBelow a b = row_cmp a b ≡ Less

abbrev AreAmong : List Row → List Row → Type 0
AreAmong xs ys = (r : Row) → Contains xs r → Contains ys r

-- ---- rows that ascend are determined by their elements

same-first : (x y : Row) (xs ys : List Row) → AllByRecursion (IsBelow x) xs → AllByRecursion (IsBelow y) ys → Contains (y ∷ ys) x → Contains (x ∷ xs) y → x ≡ y
same-first x y xs ys up down f g = elim (in-split y ys x f) [
  | inl e ↦ sym e
  | inr its ↦ elim (in-split x xs y g) [
    | inl e ↦ e
    | inr there ↦ absurd (never row_cmp row_total x (row_total.trans x y x (each-in (IsBelow x) xs y up there) (each-in (IsBelow y) ys x down its)))
  ]
]

behind : (x y : Row) (xs ys : List Row) → x ≡ y → AllByRecursion (IsBelow x) xs → AreAmong (x ∷ xs) (y ∷ ys) → AreAmong xs ys
behind x y xs ys e up f r has = elim (in-split y ys r (f r (in-later x xs r has))) [
  | inl is ↦ absurd (never row_cmp row_total x (ap (row_cmp x) (e ∙ is) ∙ each-in (IsBelow x) xs r up has))
  | inr its ↦ its
]

same-rows : (xs ys : List Row) → Pairs IsBelow xs → Pairs IsBelow ys → AreAmong xs ys → AreAmong ys xs → xs ≡ ys
same-rows [] [] p q f g = refl
same-rows [] (y ∷ ys) p q f g = absurd (in-none y (g y (in-first y ys)))
same-rows (x ∷ xs) [] p q f g = absurd (in-none x (f x (in-first x xs)))
same-rows (x ∷ xs) (y ∷ ys) p q f g =
    let e = same-first x y xs ys p.0 q.0 (f x (in-first x xs)) (g y (in-first y ys)) in
    ap (λ z. z ∷ xs) e ∙ ap (λ l. y ∷ l) (same-rows xs ys p.1 q.1 (behind x y xs ys e p.0 f) (behind y x ys xs (sym e) q.0 g))

-- ---- the rows of held series

below : (a b : Row) → IsUp a b → AreOfOthers a b → IsBelow a b
below a b up others = elim (turn (row_cmp a b) (row_cmp b a) (row_total.antisymm a b) up) [
  | inl less ↦ less
  | inr equal ↦ absurd (others (sym (series-from b a equal)))
]

all-below : (rs : List Row) → Pairs IsUp rs → Pairs AreOfOthers rs → Pairs IsBelow rs
all-below [] up others = tt
all-below (r ∷ rs) up others =
    (each-map (λ q. IsUp r q × AreOfOthers r q) (IsBelow r) (λ q h. below r q h.0 h.1) rs (each-both (IsUp r) (AreOfOthers r) rs up.0 others.0), all-below rs up.1 others.1)

module _ {display : Display} (cells : Cells) where
  rows-below : (rows : List Row) → AreRows display cells rows → Pairs IsBelow rows
  rows-below rows are = all-below rows (rows-up row_total rows are.ordered) (rows-of-others cells rows are)

  rows-among : (xs ys : List Row) → AreRows display cells xs → AreRows display cells ys → AreAmong xs ys
  rows-among xs ys are others r has =
      let of : List Row = map (row_of display) are.keys in
      let s = unmapped (row_of display) are.keys r (Contains-permutation xs of r (IsPermutation-sym of xs are.same) has) in
      subst (Contains ys) s.2 (row-held cells ys others s.0 ((are.held s.0).0 s.1))

pub one-text : {naming : Naming} {legend : Legend} {places : List ℕ → ℕ} (cells : Cells) (a b : List ℕ) → IsScaled naming legend places cells a → IsScaled naming legend places cells b → a ≡ b
one-text cells a b e f =
    let same = same-rows e.rows f.rows (rows-below cells e.rows e.all) (rows-below cells f.rows f.all) (rows-among cells e.rows f.rows e.all f.all) (rows-among cells f.rows e.rows f.all e.all) in
    e.is ∙ ap (λ rows. rows_text cells rows None rows) same ∙ sym f.is
