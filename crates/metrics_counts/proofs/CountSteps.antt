-- A step that adds to the total keeps the rule.
use Rattle.std.proofs.Common.{◌≡◌, ℕ, zero, suc, ◌+◌, ◌-◌, ◌*◌, ◌/◌, ◌%◌, ◌^◌, ◌≤◌, ◌<◌, ◌≢◌, max, List, [], ◌∷◌, ◌++◌, set, refl, sym, ap, ◌∙◌, subst, ⊎_elim, le_refl, le_trans, arith}
use Rattle.std.proofs.Math.Nat.{mod-add-mod, div-add-mod'}
use Rattle.std.proofs.lemmas.Nat.{mod-mul-add}
use Rattle.std.proofs.lemmas.List.Sums.{sum_by-cons, sum_by_push}
use mathlib.Core.Option.{some, some-injective, some-ne-none}
use native.Mathlib.Decide.{dec_le}
use lib.ListN.{get_elem?}
use Rattle.atomic_table.proofs.Lists.{at_set, at_snoc}
use Rattle.metrics_counts.specs.declared.view.View.{View}
use Rattle.metrics_counts.specs.Counting.{total_of, first_view, AllBelow, IsCounted, WasAdded}

-- the total changes as what one seat added
total_of-set : (views : List View) (seat : ℕ) (v w : View) (amount : ℕ) → get_elem? views seat ≡ some v → w.added ≡ v.added + amount → total_of (set views seat w) ≡ total_of views + amount
total_of-set [] seat v w amount at more = absurd (some-ne-none v (sym at))
total_of-set (x ∷ xs) zero v w amount at more =
    let same : x.added ≡ v.added = ap (λ (u : View). u.added) (some-injective x v at) in
    omega (arith, same, more, sum_by-cons (λ u. u.added) w xs, sum_by-cons (λ u. u.added) x xs)
total_of-set (x ∷ xs) (suc i) v w amount at more =
    omega (arith, total_of-set xs i v w amount at more, sum_by-cons (λ u. u.added) x (set xs i w), sum_by-cons (λ u. u.added) x xs)

-- a seat that saw one total now sees another
sees : (total next : ℕ) (views : List View) (seat : ℕ) (w : View) → total ≤ next → w.seen ≤ next → AllBelow total views → AllBelow next (set views seat w)
sees total next views seat w up own below j u e = ⊎_elim (λ (t : (j ≡ seat) × (w ≡ u)). subst (λ (z : View). z.seen ≤ next) t.1 own)
    (λ (t : (j ≢ seat) × (get_elem? views j ≡ some u)). le_trans (below j u t.1) up) (at_set views seat j w u e)

-- a seat comes that sees this total
comes : (total next : ℕ) (views : List View) (w : View) → total ≤ next → w.seen ≤ next → AllBelow total views → AllBelow next (views ++ w ∷ [])
comes total next views w up own below j u e = ⊎_elim (λ (t : get_elem? views j ≡ some u). le_trans (below j u t) up) (λ (t : w ≡ u). subst (λ (z : View). z.seen ≤ next) t own) (at_snoc views w u j e)

-- a step leaves the word of the total that it found, and an amount
abbrev pub Rises : (ℕ → ℕ) → (ℕ → ℕ) → Type 0
Rises f amount = (total : ℕ) → f (total % 2 ^ 64) ≡ (total + amount (total % 2 ^ 64)) % 2 ^ 64

word_after : (f amount : ℕ → ℕ) → Rises f amount → (n total next : ℕ) → n ≡ total % 2 ^ 64 → next ≡ total + amount n → f n ≡ next % 2 ^ 64
word_after f amount fits n total next is more = ap f is ∙ (fits total ∙ (ap (λ (k : ℕ). (total + amount k) % 2 ^ 64) (sym is) ∙ ap (λ (k : ℕ). k % 2 ^ 64) (sym more)))

module _ (f amount : ℕ → ℕ) (fits : Rises f amount) (n : ℕ) (views : List View) (kept : IsCounted n views) where
  -- the step of a seat that made one before
  pub goes_on : (id : ℕ) (v : View) → get_elem? views id ≡ some v → (w : View) × IsCounted (f n) (set views id w) × WasAdded (amount n) v n w
  goes_on id v at =
      let total = total_of views in
      let more = amount n in
      let w : View = record { seen = total + more; added = v.added + more } in
      let next : total_of (set views id w) ≡ total + more = total_of-set views id v w more at refl in
      let below : AllBelow (total + more) (set views id w) = sees total (total + more) views id w (omega arith) (le_refl (total + more)) kept.1 in (
        w,
        (word_after f amount fits n total (total_of (set views id w)) kept.0 next, subst (λ (k : ℕ). AllBelow k (set views id w)) (sym next) below),
        (total, kept.1 id v at, kept.0, refl, refl),
      )

  -- the first step of a seat
  pub begins : (w : View) × IsCounted (f n) (views ++ w ∷ []) × WasAdded (amount n) first_view n w
  begins =
      let total = total_of views in
      let more = amount n in
      let w : View = record { seen = total + more; added = 0 + more } in
      let next : total_of (views ++ w ∷ []) ≡ total + more = sum_by_push (λ v. v.added) views w ∙ omega arith in
      let below : AllBelow (total + more) (views ++ w ∷ []) = comes total (total + more) views w (omega arith) (le_refl (total + more)) kept.1 in (
        w,
        (word_after f amount fits n total (total_of (views ++ w ∷ [])) kept.0 next, subst (λ (k : ℕ). AllBelow k (views ++ w ∷ [])) (sym next) below),
        (total, omega arith, kept.0, refl, refl),
      )

pub adds : (k : ℕ) → Rises (λ n. (n + k) % 2 ^ 64) (λ n. k)
adds k total = mod-add-mod total (2 ^ 64) k

-- the word of a total that is raised to k
raised : (total k : ℕ) → k < 2 ^ 64 → Dec (k ≤ total % 2 ^ 64) → max (total % 2 ^ 64) k ≡ (total + (k - total % 2 ^ 64)) % 2 ^ 64
raised total k fits (yes low) =
    let same : total + (k - total % 2 ^ 64) ≡ total = omega arith in
    let greatest : max (total % 2 ^ 64) k ≡ total % 2 ^ 64 = omega arith in
    greatest ∙ ap (λ n. n % 2 ^ 64) (sym same)
raised total k fits (no high) =
    let q = total / 2 ^ 64 in
    let n = total % 2 ^ 64 in
    let parts : q * 2 ^ 64 + n ≡ total = div-add-mod' total (2 ^ 64) in
    let sum : total + (k - n) ≡ q * 2 ^ 64 + k = omega arith in
    let greatest : max n k ≡ k = omega arith in
    greatest ∙ (sym (mod-mul-add q (2 ^ 64) k fits) ∙ ap (λ m. m % 2 ^ 64) (sym sum))

pub raises : (k : ℕ) → k < 2 ^ 64 → Rises (λ n. max n k) (λ n. k - n)
raises k fits total = raised total k fits (dec_le k (total % 2 ^ 64))

-- a look adds nothing
pub looks : Rises (λ n. n) (λ n. 0)
looks total = ap (λ (n : ℕ). n % 2 ^ 64) (omega arith)

-- nobody has a seat at a new cell
pub starts : IsCounted 0 []
starts = (refl, λ seat v e. absurd (some-ne-none v (sym e)))
