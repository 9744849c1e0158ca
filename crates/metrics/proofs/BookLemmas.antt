-- Chunks of a list.
use Rattle.std.proofs.Common.{◌≡◌, ℕ, zero, suc, ◌≤◌, List, [], ◌∷◌, ◌++◌, length, take, drop, refl, ap, ◌∙◌, arith, length-drop, take-append-drop}
use Rattle.metrics.specs.Book.{chunks_within, chunks, joined_lists}

joined-chunks_within : {A : Type 0} (n : ℕ) (xs : List A) → length xs ≤ n → joined_lists (chunks_within n xs) ≡ xs
joined-chunks_within n [] le = refl
joined-chunks_within zero (x ∷ xs) le = absurd (omega arith)
joined-chunks_within (suc n) (x ∷ xs) le =
    ap (λ ys. take 64 (x ∷ xs) ++ ys) (joined-chunks_within n (drop 64 (x ∷ xs)) (omega (arith, length-drop 64 (x ∷ xs))))
    ∙ take-append-drop 64 (x ∷ xs)

pub joined-chunks : {A : Type 0} (xs : List A) → joined_lists (chunks xs) ≡ xs
joined-chunks xs = joined-chunks_within (length xs) xs (omega arith)
