-- Quantiles in billionths, and their labels.
use Rattle.std.specs.Prelude.{◌==◌, ℕ, ℤ, pos, negsuc, zero, suc, ◌+◌, ◌-◌, ◌*◌, ◌/◌, ◌%◌, ◌^◌, if◌then◌else◌, min, List, [], ◌∷◌, ◌++◌, length, slice_get, Option}
use Rattle.std.specs.Fmt.{decimal}

-- the nearest number from 0 to 1,000,000,000
abbrev pub clamped : ℤ → ℕ
clamped (pos n) = min n 1000000000
clamped (negsuc n) = 0

-- the k lowest digits of n in ASCII, the highest first
abbrev pub low_digits : ℕ → ℕ → List ℕ
low_digits zero n = []
low_digits (suc k) n = (48 + n / 10 ^ k % 10) ∷ low_digits k n

-- a digit before others, except a zero before none
abbrev pub digit_before : ℕ → List ℕ → List ℕ
digit_before d [] = if d == 48 then [] else d ∷ []
digit_before d (e ∷ ds) = d ∷ e ∷ ds

-- without the zeros at the end
abbrev pub without_trailing_zeros : List ℕ → List ℕ
without_trailing_zeros [] = []
without_trailing_zeros (d ∷ ds) = digit_before d (without_trailing_zeros ds)

-- `min` at 0, `max` at 1,000,000,000, else `p` and the percentile's digits: the decimal text of its whole part, and its seven
-- decimals without trailing zeros
abbrev pub label_of : ℕ → List ℕ
label_of q = if q == 0 then 109 ∷ 105 ∷ 110 ∷ []
    else if q == 1000000000 then 109 ∷ 97 ∷ 120 ∷ []
    else 112 ∷ decimal (q / 10 ^ 7) ++ without_trailing_zeros (low_digits 7 (q % 10 ^ 7))

-- ---- of a list

-- the nearest rank of q billionths among n values: q * n / 1,000,000,000, rounded up
abbrev pub nearest_rank : ℕ → ℕ → ℕ
nearest_rank q n = (q * n + 999999999) / 1000000000

-- the value of that rank, if there is one; the first has rank 1, and rank 0 counts as 1
abbrev pub of_sorted : ℕ → List ℤ → Option ℤ
of_sorted q xs = slice_get xs (nearest_rank q (length xs) - 1)
