-- The sizes of chunks.
use Rattle.std.proofs.Common.{◌≡◌, ℕ, zero, suc, ◌<◌, ◌≤◌, ℤ, List, [], ◌∷◌, length, take, drop, arith, length-take, length-drop}
use Rattle.metrics.specs.Book.{chunks_within, chunks}
use Rattle.metrics_laws.specs.Laws.{AreFullButLast}

-- one chunk before those of the rest
before_rest : (chunk rest : List ℤ) (n : ℕ) → 0 < length chunk → length chunk ≤ 64 → (0 < length rest → length chunk ≡ 64) → length rest ≤ n
    → AreFullButLast (chunks_within n rest) → AreFullButLast (chunk ∷ chunks_within n rest)
before_rest chunk [] n some most full le h = (some, most)
before_rest chunk (x ∷ xs) zero some most full le h = absurd (omega arith)
before_rest chunk (x ∷ xs) (suc n) some most full le h = (full (omega arith), h)

full-chunks_within : (n : ℕ) (xs : List ℤ) → length xs ≤ n → AreFullButLast (chunks_within n xs)
full-chunks_within n [] le = tt
full-chunks_within zero (x ∷ xs) le = absurd (omega arith)
full-chunks_within (suc n) (x ∷ xs) le =
    let t = length-take 64 (x ∷ xs) in
    let d = length-drop 64 (x ∷ xs) in
    before_rest (take 64 (x ∷ xs)) (drop 64 (x ∷ xs)) n (omega (arith, t)) (omega (arith, t)) (λ some. omega (arith, t, d)) (omega (arith, d)) (full-chunks_within n (drop 64 (x ∷ xs)) (omega (arith, d)))

pub full-chunks : (xs : List ℤ) → AreFullButLast (chunks xs)
full-chunks xs = full-chunks_within (length xs) xs (omega arith)
