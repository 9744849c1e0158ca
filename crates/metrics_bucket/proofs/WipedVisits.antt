-- Which visits of a walk are wiped, and what values the visits have.
use Rattle.std.proofs.Common.{◌≡◌, ◌≢◌, ℕ, zero, suc, ◌<◌, List, [], ◌∷◌, length, get_or, set, replicate, refl, sym, ap, ◌∙◌, arith}
use mathlib.Core.Logic.{dite}
use mathlib.Core.Option.{some, some-injective, some-ne-none}
use native.Mathlib.Decide.{ℕ_discrete}
use lib.ListN.{get_elem?}
use Rattle.metrics_bucket.specs.declared.view.Visit.{Visit}
use Rattle.metrics_bucket.specs.declared.view.Visit.TheVariants.{Unseen}
use Rattle.metrics_bucket.specs.BucketState.{value_in, values_in}
use Rattle.metrics_bucket.specs.Facts.{below}
use Rattle.metrics_bucket.specs.Places.{is_wiped, wiped_place}

pub unwiped_new : (n i : ℕ) → wiped_place (replicate n Unseen) i ≡ 0
unwiped_new zero i = refl
unwiped_new (suc n) zero = refl
unwiped_new (suc n) (suc i) = unwiped_new n i

pub wiped_else : (visits : List Visit) (i j : ℕ) (d : Visit) → j ≢ i → wiped_place (set visits i d) j ≡ wiped_place visits j
wiped_else [] i j d n = refl
wiped_else (c ∷ cs) zero zero d n = absurd (n refl)
wiped_else (c ∷ cs) zero (suc j) d n = refl
wiped_else (c ∷ cs) (suc i) zero d n = refl
wiped_else (c ∷ cs) (suc i) (suc j) d n = wiped_else cs i j d (λ e. n (ap suc e))

pub wiped_there : (visits : List Visit) (i : ℕ) (c d : Visit) → get_elem? visits i ≡ some c → (wiped_place visits i ≡ is_wiped c) × (wiped_place (set visits i d) i ≡ is_wiped d)
wiped_there [] i c d e = absurd (some-ne-none c (sym e))
wiped_there (x ∷ xs) zero c d e = (ap is_wiped (some-injective x c e), refl)
wiped_there (x ∷ xs) (suc i) c d e = wiped_there xs i c d e

pub wiped_same : (visits : List Visit) (i j : ℕ) (c d : Visit) → get_elem? visits i ≡ some c → is_wiped d ≡ is_wiped c → wiped_place (set visits i d) j ≡ wiped_place visits j
wiped_same visits i j c d e s = dite (ℕ_discrete j i) (λ h. let t = wiped_there visits i c d e in (λ k. wiped_place (set visits i d) (h k)) ∙ (t.1 ∙ (s ∙ (sym t.0 ∙ (λ k. wiped_place visits (sym h k)))))) (λ n. wiped_else visits i j d n)

-- where all visits are wiped
pub all_wiped : (visits : List Visit) (i : ℕ) → ((j : ℕ) (c : Visit) → get_elem? visits j ≡ some c → is_wiped c ≡ 1) → wiped_place visits i ≡ below i (length visits)
all_wiped [] i a = refl
all_wiped (c ∷ cs) zero a = a 0 c refl
all_wiped (c ∷ cs) (suc i) a = all_wiped cs i (λ j d e. a (suc j) d e)

pub length_values : (visits : List Visit) → length (values_in visits) ≡ length visits
length_values [] = refl
length_values (c ∷ cs) = ap suc (length_values cs)

pub value_there : (visits : List Visit) (i : ℕ) → i < length (values_in visits) → (c : Visit) × (get_elem? visits i ≡ some c) × (get_or (values_in visits) i 0 ≡ value_in c)
value_there [] i l = absurd (omega arith)
value_there (c ∷ cs) zero l = (c, refl, refl)
value_there (c ∷ cs) (suc i) l = value_there cs i (omega arith)
