-- Sampling is fair by count: the lists of draws under which an item is kept.
use Rattle.std.specs.Prelude.{if◌then◌else◌, ◌≡◌, ℕ, zero, suc, ◌*◌, ◌<◌, ◌≤◌, min, Bool, true, false, ◌||◌, List, [], ◌∷◌, ◌++◌, length, Some, nat_eq}
use Rattle.std.specs.Bool.{Decides}
use Rattle.std.specs.Int.{sum_through}
use Rattle.std.specs.Option.{option_eq}
use Rattle.metrics_storage.specs.Reservoir.{item_at}

-- whether some number below n passes a test
abbrev pub some_below : ℕ → (ℕ → Bool) → Bool
some_below zero test = false
some_below (suc n) test = test n || some_below n test

-- whether under these draws some place holds item j
abbrev pub is_kept : ℕ → ℕ → List ℕ → Bool
is_kept k j draws = some_below (min k (length draws)) (λ p. option_eq nat_eq (item_at k draws p) (Some j))

-- an item is kept exactly if it is at some place
abbrev pub KeptHasPlace : Type 0
KeptHasPlace = (k j : ℕ) (draws : List ℕ) → Decides (is_kept k j draws) ((p : ℕ) × (p < min k (length draws)) × (item_at k draws p ≡ Some j))

-- how many lists that lengthen the first draws by m more pass a test: i draws go on by each of 0 to i
abbrev pub count : ℕ → (List ℕ → Bool) → List ℕ → ℕ
count zero test draws = if test draws then 1 else 0
count (suc m) test draws = sum_through (λ d. count m test (draws ++ d ∷ [])) (length draws)

-- the number of lists of n draws
abbrev pub all : ℕ → ℕ
all n = count n (λ _. true) []

-- of those, the number under which k places hold item j
abbrev pub kept : ℕ → ℕ → ℕ → ℕ
kept k j n = count n (is_kept k j) []

-- each of n items is kept under k of n parts of the draws
abbrev pub IsFair : Type 0
IsFair = (k n j : ℕ) → k ≤ n → j < n → n * kept k j n ≡ k * all n
