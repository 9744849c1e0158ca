-- Numbers and sums of values.
use Rattle.std.specs.Prelude.{ℕ, zero, suc, ◌+◌, List, [], ◌∷◌, ◌++◌}
use Rattle.metrics_bucket.specs.Facts.{weigh}

-- how many values these are, and their sum
abbrev pub count_of : List ℕ → ℕ
count_of xs = weigh (λ _. 1) xs

abbrev pub sum_of : List ℕ → ℕ
sum_of xs = weigh (λ x. x) xs

-- the numbers below n, the least first
abbrev pub below : ℕ → List ℕ
below zero = []
below (suc n) = below n ++ n ∷ []

-- what they add up to
abbrev pub sum_below : ℕ → ℕ
sum_below zero = 0
sum_below (suc n) = sum_below n + n
