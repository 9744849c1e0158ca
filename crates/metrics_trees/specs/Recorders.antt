-- Recorders by number: their books, their targets, and when adding one fails.
use Rattle.std.specs.Prelude.{if◌then◌else◌, ℕ, ◌+◌, ◌≤◌, nat_eq, nat_le, List, length, take}
use Rattle.std.specs.List.{flat_map}
use Rattle.metrics_names.specs.declared.kind.MetricKind.{MetricKind}
use Rattle.metrics.specs.Meaning.{Meaning}
use Rattle.metrics.specs.Layers.{joined_all, targets_of}
use Rattle.metrics_trees.specs.declared.over_error.OverError.{OverError}
use Rattle.metrics_trees.specs.declared.over_error.OverError.TheVariants.{NotOneEach, TooManyBooks as TooMany, Memory as OutOfMemory}
-- why one recorder more, or a route, is rejected: as of leaves, since a meaning's books are its leaves
pub use Rattle.metrics_rules.specs.Branches.{refusal, route_refusal, target_refusal}

-- the number of books of a recorder
abbrev pub books_of : Meaning → ℕ
books_of a = length a.contents

-- how many books there may be in all
abbrev pub most_books : ℕ
most_books = 65536

-- the number of books of several recorders
abbrev pub books_in : List Meaning → ℕ
books_in all = books_of (joined_all all)

-- the number of books before a recorder
abbrev pub start : ℕ → List Meaning → ℕ
start w all = books_in (take w all)

-- the targets in the recorders at these leaves, each at its name there
abbrev pub spread : List Meaning → MetricKind → List (ℕ × List ℕ) → List (ℕ × List ℕ)
spread all kind ts = flat_map (λ t. targets_of t.0 all kind t.1) ts

-- with one recorder more there are few enough books
abbrev pub BooksFit : List Meaning → Meaning → Type 0
BooksFit all a = books_in all + books_of a ≤ most_books

-- why several recorders are rejected: for too many books exactly if they have more, and else for memory
abbrev pub row_refusal : List Meaning → OverError
row_refusal all = if nat_le (books_in all) most_books then OutOfMemory else TooMany

-- why recorders are rejected for rules with so many leaves: unless there is one for each, else as they are
abbrev pub over_refusal : ℕ → List Meaning → OverError
over_refusal leaves all = if nat_eq leaves (length all) then row_refusal all else NotOneEach
