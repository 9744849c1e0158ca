-- A call of one of several recorders.
use Rattle.std.specs.Prelude.{◌≡◌, ℕ, ◌<◌, List, length, map, get_or, slice_set}
use Rattle.metrics_names.specs.declared.kind.MetricKind.{MetricKind}
use Rattle.metrics.specs.Meaning.{Meaning, KeepsTargets}
use Rattle.metrics_trees.specs.Recorders.{books_in, spread}

-- recorders after calls are as many, with as many books, and have the same targets at each leaf
pub record Stay {B : Type 0} (m : B → Meaning) (was now : List B) : Type 0 where
  pub count : length now ≡ length was
  pub books : books_in (map m now) ≡ books_in (map m was)
  pub same : (kind : MetricKind) (ts : List (ℕ × List ℕ)) → spread (map m now) kind ts ≡ spread (map m was) kind ts

-- the recorder at a leaf was called, which did this, and the others stayed
pub record Calls {B : Type 0} (m : B → Meaning) (leaf : ℕ) (was now : List B) (R : Meaning → Meaning → Type 0) : Type 0 where
  pub before : B
  pub after : B
  pub within : leaf < length was
  pub at : before ≡ get_or was leaf before
  pub is : now ≡ slice_set was leaf after
  pub keeps : KeepsTargets (m before) (m after)
  pub called : R (m before) (m after)
