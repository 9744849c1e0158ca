-- Checks of one counter, under a timeout of 5.
use Rattle.std.specs.Prelude.{◌≡◌, ℕ, Bool, true, false, [], ◌∷◌, Some, nat_eq}
use Rattle.metrics_names.specs.declared.kind.MetricKind.TheVariants.{Counter}
use Rattle.metrics_names.specs.Names.{kind_eq}
use Rattle.metrics_registry.specs.Recency.{Rules, Check}
use Rattle.metrics_registry.specs.Idleness.{run_answers}

abbrev pub counters_for_five : Rules
counters_for_five = record { timeout = Some 5; mask = kind_eq Counter }

abbrev pub check_at : ℕ → Bool → Check ℕ
check_at moment held = record { kind = Counter; key = 7; generation = 1; moment = moment; held = held }

abbrev pub SeenBack : Type 0
SeenBack = run_answers nat_eq counters_for_five [] (check_at 100 true ∷ check_at 0 true ∷ check_at 105 true ∷ check_at 106 true ∷ []) ≡ true ∷ true ∷ true ∷ false ∷ []

abbrev pub SeenHeld : Type 0
SeenHeld = run_answers nat_eq counters_for_five [] (check_at 10 true ∷ check_at 15 true ∷ check_at 16 false ∷ check_at 17 true ∷ check_at 18 true ∷ []) ≡ true ∷ true ∷ true ∷ false ∷ true ∷ []
