-- Recency over the list of checks that were answered.
use Rattle.std.specs.Prelude.{◌≡◌, ℕ, Bool, not, ◌&&◌, List, [], ◌∷◌, nat_eq}
use Rattle.std.specs.List.{filter, take_while}
use Rattle.metrics_registry.specs.Recency.{Rules, Check, is_of, is_late, new_table, table_answers}

-- a check and its result
pub record Answered (K : Type 0) : Type 0 where
  pub check : Check K
  pub answer : Bool

-- of earlier checks, the latest first, those of the (kind, key) of c
abbrev pub earlier_of : {K : Type 0} → (K → K → Bool) → Check K → List (Answered K) → List (Answered K)
earlier_of same c earlier = filter (λ a. is_of same a.check c.kind c.key) earlier

-- a check belongs to the run of a later one: its result was true, and it had the generation of now
abbrev pub goes_on : {K : Type 0} → ℕ → Answered K → Bool
goes_on generation a = a.answer && nat_eq a.check.generation generation

-- the run of a check but for itself, the latest first
abbrev pub run_before : {K : Type 0} → (K → K → Bool) → Check K → List (Answered K) → List (Answered K)
run_before same c earlier = take_while (goes_on c.generation) (earlier_of same c earlier)

-- the moment of the first of checks, listed from the latest on, or else m
abbrev pub first_moment : {K : Type 0} → ℕ → List (Answered K) → ℕ
first_moment m [] = m
first_moment m (a ∷ run) = first_moment a.check.moment run

-- the result is false exactly if a timeout is set, the mask has the kind, the run's first check was more than the timeout
-- ago, and the registry held the key
abbrev pub run_answer : {K : Type 0} → (K → K → Bool) → Rules → List (Answered K) → Check K → Bool
run_answer same rules earlier c = not (rules.mask c.kind && is_late rules.timeout (first_moment c.moment (run_before same c earlier)) c.moment && c.held)

-- the results of checks, one after another
abbrev pub run_answers : {K : Type 0} → (K → K → Bool) → Rules → List (Answered K) → List (Check K) → List Bool
run_answers same rules earlier [] = []
run_answers same rules earlier (c ∷ checks) = let answer = run_answer same rules earlier c in answer ∷ run_answers same rules (record { check = c; answer = answer } ∷ earlier) checks

-- over every list of checks the table decides by their runs
abbrev pub TableGivesRuns : {K : Type 0} → (K → K → Bool) → Type 0
TableGivesRuns {K} same = (rules : Rules) (checks : List (Check K)) → table_answers same rules new_table checks ≡ run_answers same rules [] checks
