-- What the chunks of a list weigh.
use Rattle.std.proofs.Common.{◌≡◌, ℕ, zero, suc, ◌+◌, List, [], ◌∷◌, length, get_or, take, map, ◌<◌, refl, ap, ◌∙◌, arith}
use Rattle.metrics.specs.Book.{joined_lists}
use Rattle.metrics_bucket.specs.Facts.{weigh}
use Rattle.metrics_bucket.specs.Blocks.{newest_first, valued}
use Rattle.metrics_bucket.proofs.Blocks.{weigh_blocks}

-- the chunks of a list weigh what the list weighs
pub weigh_newest : (h : ℕ → ℕ) (vs : List ℕ) → weigh h (joined_lists (newest_first vs)) ≡ weigh h vs
weigh_newest h vs = weigh_blocks h vs

same_values : (xs : List ℕ) → map (λ (x : ℕ). x) xs ≡ xs
same_values [] = refl
same_values (x ∷ xs) = ap (λ (l : List ℕ). x ∷ l) (same_values xs)

-- numbers are their own values
pub same_chunks : (xss : List (List ℕ)) → valued (λ (x : ℕ). x) xss ≡ xss
same_chunks [] = refl
same_chunks (xs ∷ xss) = (λ i. same_values xs i ∷ same_chunks xss i)

weigh_suc : (h : ℕ → ℕ) (xs : List ℕ) (n : ℕ) → n < length xs → weigh h (take (suc n) xs) ≡ weigh h (take n xs) + h (get_or xs n 0)
weigh_suc h [] n l = absurd (omega arith)
weigh_suc h (x ∷ xs) zero l = omega arith
weigh_suc h (x ∷ xs) (suc n) l = let r = weigh_suc h xs n (omega arith) in omega arith

-- one value more
pub weigh_more : (h : ℕ → ℕ) (xs : List ℕ) (n : ℕ) → n < length xs → weigh h (take (n + 1) xs) ≡ weigh h (take n xs) + h (get_or xs n 0)
weigh_more h xs n l = let e : n + 1 ≡ suc n = omega arith in ap (λ (k : ℕ). weigh h (take k xs)) e ∙ weigh_suc h xs n l

pub weigh_one : (xs : List ℕ) → weigh (λ _. 1) xs ≡ length xs
weigh_one [] = refl
weigh_one (x ∷ xs) = let r = weigh_one xs in omega arith
